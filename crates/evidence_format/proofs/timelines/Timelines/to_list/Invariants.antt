use Rattle.std.proofs.Common.{◌≡◌, length, take}
use Rattle.evidence_format.proofs.timelines.Timelines.to_list.Given as goal

-- the first timelines have lists
abbrev pub invariant-loop-k : goal.invariant-loop-k
invariant-loop-k l = (l.list ≡ take l.k l.self) × (l.k-end ≡ length l.self)
