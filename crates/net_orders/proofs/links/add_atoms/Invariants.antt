use Rattle.std.proofs.Common.{◌≡◌, length, get_or}
use Rattle.net_core.specs.Atoms.{Satisfies, atoms_in}
use Rattle.net_orders.specs.Steps.{AddsToTable}
use Rattle.net_orders.proofs.LinkAtoms.{no_atom}
use Rattle.net_orders.proofs.Steps.{Below}
use Rattle.net_orders.proofs.links.add_atoms.Given as goal

-- the atoms so far are added
abbrev pub invariant-loop-number : goal.invariant-loop-number
invariant-loop-number l = record {
  end : l.number-end ≡ length (atoms_in l.atoms);
  so_far : AddsToTable (Below (λ k t. Satisfies t (get_or (atoms_in l.atoms) k no_atom)) l.number) l.fn.table l.table;
}
