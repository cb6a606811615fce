use Rattle.std.proofs.Common.{◌≡◌, ◌++◌, take, map}
use Rattle.std.specs.List.{flat_map}
use Rattle.net_core.specs.Ranks.{pairs_of}
use Rattle.evidence_format.specs.Written.{timeline_bytes}
use Rattle.evidence_format.proofs.write.push_timelines.Given as goal

-- the lines of the first ones are written
abbrev pub invariant-loop-ranks : goal.invariant-loop-ranks
invariant-loop-ranks l = l.out.items ≡ l.initial.out.items ++ flat_map timeline_bytes (map pairs_of (take l.ranks-index l.timelines))
