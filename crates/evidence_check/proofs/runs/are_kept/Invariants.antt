use Rattle.std.proofs.Common.{◌↔◌, IsTrue, length, drop}
use Rattle.std.specs.List.{All}
use Rattle.net_core.specs.Ranks.{timeline_of}
use Rattle.evidence_check.specs.Pairs.{AreRuns, IsKept, IsPairWithin}
use Rattle.evidence_check.proofs.runs.are_kept.Given as goal

-- whether all pairs are, by those so far and those that are left
abbrev pub invariant-loop-len : goal.invariant-loop-len
invariant-loop-len l = record {
  within : All (IsPairWithin l.order (length l.ranks)) l.rest;
  runs : AreRuns (drop l.len-index l.lens) l.rest;
  kept : (IsTrue l.all × All (IsKept l.order (timeline_of l.ranks)) l.rest) ↔ All (IsKept l.order (timeline_of l.ranks)) l.pairs;
}
