use Rattle.std.proofs.Common.{◌↔◌, IsTrue, take}
use Rattle.std.specs.List.{All}
use Rattle.net_core.specs.Ranks.{timeline_of}
use Rattle.evidence_check.specs.Pairs.{IsKept}
use Rattle.evidence_check.proofs.runs.is_each_kept.Given as goal

-- whether the pairs so far are
abbrev pub invariant-loop-pair : goal.invariant-loop-pair
invariant-loop-pair l = IsTrue l.all ↔ All (IsKept l.order (timeline_of l.ranks)) (take l.pair-index l.pairs)
