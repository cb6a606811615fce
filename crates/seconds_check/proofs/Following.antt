-- Following lines from a point, and where they stop.
use Rattle.std.proofs.Common.{◌≡◌, ℕ, ◌+◌, ◌*◌, ◌<◌, ℤ, pos, neg_ℤ, ◌+ℤ◌, ◌≤ℤ◌, List, [], ◌∷◌, ◌++◌, length, take, get_or, sym, ap, subst, ◌∙◌, arith, Some}
use Rattle.std.proofs.lemmas.Int.{ints}
use Rattle.std.proofs.lemmas.List.{take_more}
use Rattle.seconds_core.specs.declared.line.Constraint.{Constraint}
use Rattle.seconds_core.specs.declared.line.Line.{Line}
use Rattle.seconds_core.specs.declared.line.Line.TheVariants as lines
use Rattle.seconds_core.specs.Constraints.{IsConstraintWithin, constraint_of}
use Rattle.seconds_core.specs.Cycles.{LeadFromTo, sum_of, weight_in}
use Rattle.seconds_core.specs.Timed.{PlainTimed, max_second}
use Rattle.seconds_check.specs.Refusals.{LinesGoFrom}
use Rattle.seconds_check.proofs.Joined.{joined_push, joined_split, one_end, sum_push}

-- what is read past the end of a list of lines
abbrev pub no_line : Line
no_line = lines.Span 0

module _ (timed : PlainTimed) where
  -- How far lines were followed: where the first of them lead, and their sum, which is not too far from 0.
  pub record IsFollowed (all : List Line) (i x y : ℕ) (sum : ℤ) : Type 0 where
    pub joined : LeadFromTo timed (take i all) x y
    pub sum_so_far : sum ≡ sum_of timed (take i all)
    pub low : neg_ℤ (pos (max_second * i)) ≤ℤ sum
    pub high : sum ≤ℤ pos (max_second * i)

  -- one line more
  pub followed_more : (all : List Line) (i x y : ℕ) (sum total : ℤ) (next : Constraint) → i < length all → IsFollowed all i x y sum
      → constraint_of timed (get_or all i no_line) ≡ Some next → next.from ≡ y → IsConstraintWithin timed next → total ≡ sum +ℤ next.weight → IsFollowed all (i + 1) x next.to total
  followed_more all i x y sum total next lt so_far named from within is =
      let line = get_or all i no_line in
      let more = take_more all i no_line lt in
      let weight : weight_in (constraint_of timed line) ≡ next.weight = ap weight_in named in
      let pushed = sum_push timed (take i all) line in
      let whole : total ≡ sum_of timed (take i all ++ line ∷ []) = omega (arith, ints, is, so_far.sum_so_far, pushed, weight) in
      record {
        joined = subst (λ (some : List Line). LeadFromTo timed some x next.to) (sym more) (joined_push timed (take i all) line next x y so_far.joined named from);
        sum_so_far = subst (λ (some : List Line). total ≡ sum_of timed some) (sym more) whole;
        low = omega (arith, ints, is, so_far.low, within.low);
        high = omega (arith, ints, is, so_far.high, within.high);
      }

  -- the next line does not go on
  pub stops_here : (all : List Line) (i x y : ℕ) (sum : ℤ) → i < length all → IsFollowed all i x y sum
      → ((next : Constraint) → constraint_of timed (get_or all i no_line) ≡ Some next → next.from ≡ y → ⊥) → LinesGoFrom timed x (take (i + 1) all) → ⊥
  stops_here all i x y sum lt so_far none goes =
      let line = get_or all i no_line in
      let parts = joined_split timed (take i all) line x goes.0 (subst (λ (some : List Line). LeadFromTo timed some x goes.0) (take_more all i no_line lt) goes.1) in
      let same = one_end timed (take i all) x parts.0 y parts.1 so_far.joined in
      none parts.2.0 parts.2.1 (parts.2.2 ∙ same)
