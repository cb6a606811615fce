use Rattle.std.proofs.Common.{◌≡◌, ◌++◌, length}
use Rattle.std.specs.List.{AllByRecursion, flat_map}
use Rattle.seconds_format.specs.Texts.{IsLongPair, seconds_at_line, pairs_of_seconds}
use Rattle.seconds_format.proofs.write.push_pairs.Given as goal

-- what is written, and the lines of what is left, are all
abbrev pub invariant-loop-rest : goal.invariant-loop-rest
invariant-loop-rest l = record {
  bytes : l.out.items ++ flat_map seconds_at_line (pairs_of_seconds l.rest) ≡ l.initial.out.items ++ flat_map seconds_at_line (pairs_of_seconds l.seconds);
  good : AllByRecursion IsLongPair (pairs_of_seconds l.rest) → AllByRecursion IsLongPair (pairs_of_seconds l.seconds);
}

abbrev pub decreases-loop-rest : goal.decreases-loop-rest
decreases-loop-rest l = length l.rest
