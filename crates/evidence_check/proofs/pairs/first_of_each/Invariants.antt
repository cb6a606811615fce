use Rattle.std.proofs.Common.{◌≡◌, length}
use Rattle.evidence_check.specs.Pairs.{AreMoved}
use Rattle.evidence_check.proofs.pairs.first_of_each.Given as goal

-- the pairs so far stand in front
abbrev pub invariant-loop-k : goal.invariant-loop-k
invariant-loop-k l = record {
  end : l.k-end ≡ length l.fn.pairs;
  moved : AreMoved l.fn.pairs l.pairs l.k l.kept;
}
