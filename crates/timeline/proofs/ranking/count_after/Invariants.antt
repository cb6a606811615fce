use Rattle.std.proofs.Common.{◌≡◌, ℕ, ◌*◌, ◌^◌, ◌<◌, ◌≤◌, get_or, take}
use Rattle.std.specs.List.{sum_by}
use Rattle.std.specs.Prelude.{count_ones}
use Rattle.timeline.proofs.ranking.count_after.Given as goal

-- the ones of the words so far
abbrev pub invariant-loop-word : goal.invariant-loop-word
invariant-loop-word l = record {
  counted : l.count ≡ sum_by count_ones (take l.word-index l.row);
  fits : (k : ℕ) → get_or l.row k 0 < 2 ^ 64;
  few : l.count ≤ 64 * l.word-index;
}
