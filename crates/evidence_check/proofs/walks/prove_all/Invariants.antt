use Rattle.std.proofs.Common.{◌≡◌, ℕ, ◌<◌, length}
use Rattle.net_core.specs.Atoms.{atoms_in}
use Rattle.evidence_check.specs.Refusals.{Proves}
use Rattle.evidence_check.proofs.walks.prove_all.Given as goal

-- the walks so far prove their atoms
abbrev pub invariant-loop-k : goal.invariant-loop-k
invariant-loop-k l = record {
  end : l.k-end ≡ length (atoms_in l.atoms);
  so_far : (j : ℕ) → j < l.k → Proves l.net (atoms_in l.atoms) l.walks j;
}
