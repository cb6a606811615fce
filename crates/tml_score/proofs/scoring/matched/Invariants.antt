use Rattle.std.proofs.Common.{◌≡◌, ◌↔◌, ℕ, ◌<◌, ◌≤◌, Bool, true, length, count_by, take}
use Rattle.tml_score.specs.Scores.{FollowsIn}
use Rattle.tml_score.specs.Scoring.{annotation_of}
use Rattle.tml_score.proofs.scoring.matched.Given as goal

-- how many of the links so far follow, by whatever test tells that
abbrev pub invariant-loop-link : goal.invariant-loop-link
invariant-loop-link l = record {
  few : l.matched ≤ l.link-index;
  counted : (test : ℕ → Bool) → ((k : ℕ) → k < length l.own.net.now.links → (test k ≡ true) ↔ FollowsIn (annotation_of l.own) (annotation_of l.other) k) → l.matched ≡ count_by test (take l.link-index l.link-items);
}
