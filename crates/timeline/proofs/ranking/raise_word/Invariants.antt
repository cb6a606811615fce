use Rattle.std.proofs.Common.{◌≡◌, ℕ, ◌+◌, ◌<◌, length, get_or}
use Rattle.std.specs.Int.{bit_at}
use Rattle.timeline.specs.Ranking.{raised}
use Rattle.timeline.proofs.ranking.raise_word.Given as goal

-- what the bits that are left raise makes what all bits make of the first ranks
abbrev pub invariant-loop-rest : goal.invariant-loop-rest
invariant-loop-rest l = record {
  within : (j : ℕ) → bit_at l.rest j ≡ 1 → l.first + j < length l.ranks;
  raised : (j : ℕ) → raised (bit_at l.rest j) l.least (get_or l.ranks (l.first + j) 0) ≡ raised (bit_at l.word j) l.least (get_or l.fn.ranks (l.first + j) 0);
  others : (q : ℕ) → q < l.first → get_or l.ranks q 0 ≡ get_or l.fn.ranks q 0;
}

abbrev pub decreases-loop-rest : goal.decreases-loop-rest
decreases-loop-rest l = l.rest
