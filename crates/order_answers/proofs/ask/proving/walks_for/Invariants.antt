use Rattle.std.proofs.Common.{◌≡◌, ◌*◌, ◌≤◌, ◌<◌, ℕ, All, length}
use Rattle.evidence_check.specs.Refusals.{Proves}
use Rattle.net_core.specs.Atoms.{atoms_in}
use Rattle.net_core.specs.Nets.{points}
use Rattle.net_core.specs.declared.step.Step.{Step}
use Rattle.std.proofs.Common.{List}
use Rattle.order_answers.proofs.ask.proving.walks_for.Given as goal

-- the atoms so far have their walks
abbrev pub invariant-loop-k : goal.invariant-loop-k
invariant-loop-k l = record {
  end : l.k-end ≡ length (atoms_in l.atoms);
  so_far : length l.walks ≡ l.k;
  proofs : (j : ℕ) → j < l.k → Proves l.net (atoms_in l.atoms) l.walks j;
  short : All (λ (steps : List Step). length steps ≤ 2 * points l.net) l.walks;
}
