use Rattle.std.proofs.Common.{◌≡◌, ℕ, ◌<◌, length}
use Rattle.std.specs.Prelude.{MatchOption}
use Rattle.seconds_core.specs.Constraints.{IsMet}
use Rattle.seconds_search.specs.Relaxation.{IsRelaxed, constraint_at, total}
use Rattle.seconds_search.proofs.relaxation.Distances.relax_all.Given as goal

-- the edges so far are met by the distances as they were, or a point was lowered
abbrev pub invariant-loop-number : goal.invariant-loop-number
invariant-loop-number l = record {
  end : l.number-end ≡ length l.edges;
  relaxed : IsRelaxed l.edges l.self;
  size : length l.self.seconds ≡ length l.initial.self.seconds;
  so_far : MatchOption l.lowered ((l.self ≡ l.initial.self) × ((e : ℕ) → e < l.number → IsMet l.self.seconds (constraint_at l.edges e))) (λ p. (p < length l.self.seconds) × (total l.self.seconds < total l.initial.self.seconds));
}
