use Rattle.std.proofs.Common.{◌≡◌, ◌<◌, ℕ, length}
use Rattle.evidence_check.specs.Refusals.{atom_at}
use Rattle.net_core.specs.Atoms.{atoms_in}
use Rattle.order_closure.specs.Tables.{GivesAtom}
use Rattle.order_answers.proofs.ask.deciding.first_not_given.Given as goal

-- the table gives the atoms so far
abbrev pub invariant-loop-k : goal.invariant-loop-k
invariant-loop-k l = record {
  end : l.k-end ≡ length (atoms_in l.atoms);
  so_far : (j : ℕ) → j < l.k → GivesAtom l.table (atom_at (atoms_in l.atoms) j);
}
