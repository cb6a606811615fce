use Rattle.std.proofs.Common.{◌≡◌, ◌++◌, length, take}
use Rattle.net_core.specs.Atoms.{atoms_in}
use Rattle.net_orders.proofs.orders.push_atoms.Given as goal

-- the orders so far are put
abbrev pub invariant-loop-number : goal.invariant-loop-number
invariant-loop-number l = record {
  end : l.number-end ≡ length (atoms_in l.atoms);
  so_far : l.orders.items ≡ l.fn.orders.items ++ take l.number (atoms_in l.atoms);
}
