-- Milestones, and what they say of the points that have dates.
use Rattle.std.proofs.Common.{◌≡◌, ◌↔◌, ◌⊎◌, ℕ, zero, suc, ◌+◌, ◌-◌, ◌*◌, ◌<◌, ◌≤◌, ℤ, ◌<ℤ◌, ◌≤ℤ◌, int_le, int_lt, List, [], ◌∷◌, length, get_or, Option, Some, None, Bool, true, false, refl, sym, ap, subst, ◌∙◌, arith, inl, inr, below_more}
use Rattle.std.specs.List.{All, Contains}
use Rattle.std.specs.List.Sorted.{IsPartitionPoint, IsPartitionedBy, IsPermutation}
use Rattle.std.proofs.lemmas.Bool.{cases_lt}
use Rattle.std.proofs.lemmas.Int.{ints}
use Rattle.std.proofs.lemmas.List.Elements.{All-cons, All-contains, All-contains_itself, All-from_get_or, All-get_or, All-head, All-nil, All-tail, All-weaker, Contains-get_or}
use Rattle.std.proofs.lemmas.List.Sorted.{All-permutation, Contains-permutation}
use Rattle.net_core.specs.Atoms.{IsInOrder, IsInRange, Satisfies, before}
use Rattle.net_core.specs.Fits.{FollowsNumbers, StartsFirst}
use Rattle.net_core.specs.Nets.{PlainNet, intervals, lower, points, upper}
use Rattle.net_core.specs.Relations.{Timeline}
use Rattle.walks.specs.Dates.{AreAscending, AreDates, IsDateOfPoint}
use Rattle.walks.specs.declared.dates.Date.{Date}
use Rattle.walks.proofs.DateLaws.{ascending, no_date}
use Rattle.net_core.specs.declared.atom.Atom.{Atom}
use Rattle.order_closure.specs.Tables.{AreInRange, SatisfiesAll}
use Rattle.net_orders.specs.Dates.{ExtendsOrders, FollowsAll, FollowsDate}
use Rattle.net_orders.specs.Milestones.{ArePlacedBefore, HasMilestones, IsAtMost, IsBeforeNext, IsFirstFrom, IsFrom, IsPlaceFrom, LeadsToFirst, SaysByMilestones, SaysDates, date_at, milestone_of}
use Rattle.net_orders.proofs.CalendarOrders.{by_number}
use Rattle.net_orders.specs.Steps.{KeepsDates}
use Rattle.net_orders.proofs.DateOrders.{dates_said}
use Rattle.net_orders.proofs.Ordered.{IsFixedBelow}

-- ---- what milestones say

-- a number is from another on, or past it, or it is not
from_or_not : (strict : Bool) (x y : ℤ) → IsFrom strict x y ⊎ (IsFrom strict x y → ⊥)
from_or_not false x y = elim (by_number x y) [
  | inl le ↦ inl le
  | inr lt ↦ inr (λ le. absurd (omega (arith, ints)))
]
from_or_not true x y = elim (by_number y x) [
  | inl le ↦ inr (λ lt. absurd (omega (arith, ints)))
  | inr lt ↦ inl lt
]

-- the first date from a number on among the first n, or none of these is
first_from : (dates : List Date) (strict : Bool) (x : ℤ) (n : ℕ) → n ≤ length dates
    → ((k : ℕ) × (k < n) × IsFirstFrom dates strict x k) ⊎ ((j : ℕ) → j < n → IsFrom strict x (date_at dates j).number → ⊥)
first_from dates strict x zero le = inr (λ j lt is. absurd (omega arith))
first_from dates strict x (suc n) le = elim (first_from dates strict x n (omega arith)) [
  | inl found ↦ inl (found.0, omega (arith, found.1), found.2)
  | inr none ↦ elim (from_or_not strict x (date_at dates n).number) [
    | inl here ↦ inl (n, omega arith, record { within = omega arith; from = here; first = none })
    | inr not ↦ inr (λ j lt is. elim (cases_lt j n) [
      | inl less ↦ none j less is
      | inr last ↦
          let same : j ≡ n = omega arith in
          not (subst (λ (i : ℕ). IsFrom strict x (date_at dates i).number) same is)
    ])
  ]
]

-- a place before which no number is from another on, or past it, and from which all are
pub place_from : (dates : List Date) (strict : Bool) (x : ℤ) (place : ℕ) → ((j : ℕ) → j < place → IsFrom strict x (date_at dates j).number → ⊥)
    → ((j : ℕ) → place ≤ j → j < length dates → IsFrom strict x (date_at dates j).number) → IsPlaceFrom dates strict x place
place_from dates strict x place before after k lt = (
  λ first. elim (cases_lt k place) [
    | inl less ↦ absurd (before k less first.from)
    | inr more ↦ elim (cases_lt place k) [
      | inl past ↦ absurd (first.first place past (after place (omega arith) (omega arith)))
      | inr not ↦ omega arith
    ]
  ],
  λ e. record { within = lt; from = after k (omega arith) lt; first = λ j less. before j (omega arith) },
)

-- the same by tests of numbers
pub place_at_least : (dates : List Date) (x : ℤ) (place : ℕ) → IsPartitionPoint (λ (date : Date). int_lt date.number x ≡ true) (λ date. int_lt date.number x ≡ false) dates place → IsPlaceFrom dates false x place
place_at_least dates x place cut = place_from dates false x place
    (λ j less le. let below : int_lt (date_at dates j).number x ≡ true = cut.0 j no_date (omega arith) less in absurd (less_not x (date_at dates j).number below le))
    (λ j more lt. let not : int_lt (date_at dates j).number x ≡ false = cut.1 j no_date more lt in not_less_from x (date_at dates j).number not)
  where
    less_not : (x y : ℤ) → int_lt y x ≡ true → x ≤ℤ y → ⊥
    less_not x y e le = absurd (grind (arith, ints))

    not_less_from : (x y : ℤ) → int_lt y x ≡ false → x ≤ℤ y
    not_less_from x y e = grind (arith, ints)

pub place_past : (dates : List Date) (x : ℤ) (place : ℕ) → IsPartitionPoint (λ (date : Date). int_le date.number x ≡ true) (λ date. int_le date.number x ≡ false) dates place → IsPlaceFrom dates true x place
place_past dates x place cut = place_from dates true x place
    (λ j less lt. let upto : int_le (date_at dates j).number x ≡ true = cut.0 j no_date (omega arith) less in absurd (upto_not x (date_at dates j).number upto lt))
    (λ j more lt. let not : int_le (date_at dates j).number x ≡ false = cut.1 j no_date more lt in past_from x (date_at dates j).number not)
  where
    upto_not : (x y : ℤ) → int_le y x ≡ true → x <ℤ y → ⊥
    upto_not x y e lt = absurd (grind (arith, ints))

    past_from : (x y : ℤ) → int_le y x ≡ false → x <ℤ y
    past_from x y e = grind (arith, ints)

-- in a list with the least number first, those up to a number stand first
upto_first : (x y z : ℤ) → x ≤ℤ y → int_le y z ≡ true → int_le x z ≡ true
upto_first x y z le e = grind (arith, ints)

pub up_to_first : (dates : List Date) (number : ℤ) → AreAscending dates → IsPartitionedBy (λ (date : Date). int_le date.number number) dates
up_to_first dates number sorted i j d le lt passes = upto_first (get_or dates i d).number (get_or dates j d).number number (ascending dates i j d sorted le lt) passes

module _ (n : ℕ) (lowers : List Date) (t : Timeline) (most : (k : ℕ) → k < length lowers → IsAtMost n lowers k t) (next : (k : ℕ) → k + 1 < length lowers → IsBeforeNext n lowers k t) where
  -- no milestone is later than one that comes after it
  milestones_rise : (i j : ℕ) → i ≤ j → j < length lowers → t (milestone_of n lowers i) ≤ t (milestone_of n lowers j)
  milestones_rise i zero le lt =
      let same : i ≡ 0 = omega arith in
      subst (λ (k : ℕ). t (milestone_of n lowers k) ≤ t (milestone_of n lowers 0)) (sym same) (omega arith)
  milestones_rise i (suc j) le lt = elim (cases_lt i (j + 1)) [
    | inl less ↦
        let before = milestones_rise i j (omega arith) (omega arith) in
        let step : t (milestone_of n lowers j) ≤ t (milestone_of n lowers (j + 1)) = next j (omega arith) in
        let one : j + 1 ≡ suc j = omega arith in
        let step_there = subst (λ (k : ℕ). t (milestone_of n lowers j) ≤ t (milestone_of n lowers k)) one step in
        omega arith
    | inr last ↦
        let same : i ≡ suc j = omega arith in
        subst (λ (k : ℕ). t (milestone_of n lowers k) ≤ t (milestone_of n lowers (suc j))) (sym same) (omega arith)
  ]

  -- a point that leads to the first milestone from its number on leads to each point with a lower number from there on
  led : (strict : Bool) (upper : Date) (j : ℕ) → LeadsToFirst n lowers strict upper t → j < length lowers → IsFrom strict upper.number (date_at lowers j).number
      → (k : ℕ) × IsInOrder strict (t upper.point) (t (milestone_of n lowers k)) × (t (milestone_of n lowers k) ≤ t (date_at lowers j).point)
  led strict upper j leads lt from = elim (first_from lowers strict upper.number (j + 1) (omega arith)) [
    | inl found ↦
        let k = found.0 in
        let rise = milestones_rise k j (omega (arith, found.1)) lt in
        let here : t (milestone_of n lowers j) ≤ t (date_at lowers j).point = most j lt in
        (k, leads k found.2, omega arith)
    | inr none ↦ absurd (none j (omega arith) from)
  ]

  -- so points are in the order of their dates
  pub follow_milestones : (upper : Date) → LeadsToFirst n lowers false upper t → LeadsToFirst n lowers true upper t → FollowsAll lowers upper t
  follow_milestones upper weak strong = All-from_get_or (λ (l : Date). FollowsDate upper l t) lowers no_date (λ j lt. (
    λ less. let way = led true upper j strong lt less in let first : t upper.point < t (milestone_of n lowers way.0) = way.1 in let second = way.2 in omega arith,
    λ same.
        let le : upper.number ≤ℤ (date_at lowers j).number = omega (arith, ints) in
        let way = led false upper j weak lt le in
        let first : t upper.point ≤ t (milestone_of n lowers way.0) = way.1 in
        let second = way.2 in
        omega arith,
  ))

-- ---- where milestones can be

-- a rank that is the greatest that is neither past a given one nor past the points of dates from a number on
least_from : (t : Timeline) (x : ℤ) (m : ℕ) (dates : List Date)
    → (v : ℕ) × (v ≤ m) × All (λ (d : Date). x ≤ℤ d.number → v ≤ t d.point) dates × ((z : ℕ) → z ≤ m → All (λ (d : Date). x ≤ℤ d.number → z ≤ t d.point) dates → z ≤ v)
least_from t x m [] = (m, omega arith, All-nil (λ (d : Date). x ≤ℤ d.number → m ≤ t d.point), λ z le all. le)
least_from t x m (date ∷ dates) = elim (by_number x date.number) [
  | inl from ↦ elim (cases_lt (t date.point) m) [
    | inl less ↦
        let rest = least_from t x (t date.point) dates in
        let v = rest.0 in
        let under = rest.1 in (
          v,
          omega arith,
          All-cons (λ (d : Date). x ≤ℤ d.number → v ≤ t d.point) date dates (λ is. under) rest.2,
          λ z le all. rest.3 z (All-head (λ (d : Date). x ≤ℤ d.number → z ≤ t d.point) date dates all from) (All-tail (λ (d : Date). x ≤ℤ d.number → z ≤ t d.point) date dates all),
        )
    | inr more ↦
        let rest = least_from t x m dates in
        let v = rest.0 in
        let under = rest.1 in (
          v,
          under,
          All-cons (λ (d : Date). x ≤ℤ d.number → v ≤ t d.point) date dates (λ is. omega arith) rest.2,
          λ z le all. rest.3 z le (All-tail (λ (d : Date). x ≤ℤ d.number → z ≤ t d.point) date dates all),
        )
  ]
  | inr before ↦
      let rest = least_from t x m dates in
      let v = rest.0 in (
        v,
        rest.1,
        All-cons (λ (d : Date). x ≤ℤ d.number → v ≤ t d.point) date dates (λ is. absurd (omega (arith, ints))) rest.2,
        λ z le all. rest.3 z le (All-tail (λ (d : Date). x ≤ℤ d.number → z ≤ t d.point) date dates all),
      )
]

-- where the milestone of a point is, by its lower number
place_by : List Date → Timeline → ℕ → Option ℤ → ℕ
place_by lowers t q (Some x) = (least_from t x (t q) lowers).0
place_by lowers t q None = t q

place_under : (lowers : List Date) (t : Timeline) (q : ℕ) (x : Option ℤ) → place_by lowers t q x ≤ t q
unfolding place_by
place_under lowers t q (Some x) = (least_from t x (t q) lowers).1
place_under lowers t q None = omega arith

-- a point is no later than one whose number is not below its own
weak_from : (x y : ℤ) (m n : ℕ) → FollowsNumbers (Some x) (Some y) m n → x ≤ℤ y → m ≤ n
weak_from x y m n follows le = elim (by_number y x) [
  | inl ge ↦ follows.1 (omega (arith, ints))
  | inr lt ↦ let less = follows.0 lt in omega arith
]

module _ (net : PlainNet) (lowers : List Date) (t : Timeline) where
  -- a point is where it was, and a milestone by its point
  place : (p : ℕ) → (p < points net) ⊎ (points net ≤ p) → ℕ
  place p (inl lt) = t p
  place p (inr ge) = place_by lowers t (p - points net) (lower net (p - points net))

  place_same : (p : ℕ) (c : (p < points net) ⊎ (points net ≤ p)) → p < points net → place p c ≡ t p
  unfolding place
  place_same p (inl lt) below = refl
  place_same p (inr ge) below = absurd (omega arith)

  place_milestone : (q : ℕ) (c : (points net + q < points net) ⊎ (points net ≤ points net + q)) → place (points net + q) c ≡ place_by lowers t q (lower net q)
  unfolding place
  place_milestone q (inl lt) = absurd (omega arith)
  place_milestone q (inr ge) = let same : points net + q - points net ≡ q = omega arith in ap (λ (r : ℕ). place_by lowers t r (lower net r)) same

  -- the timeline with milestones
  pub placed : Timeline
  placed p = place p (cases_lt p (points net))

  pub placed_same : (p : ℕ) → p < points net → placed p ≡ t p
  unfolding placed
  placed_same p lt = place_same p (cases_lt p (points net)) lt

  placed_milestone : (q : ℕ) → placed (points net + q) ≡ place_by lowers t q (lower net q)
  unfolding placed
  placed_milestone q = place_milestone q (cases_lt (points net + q) (points net))

  pub has_milestones : HasMilestones (points net) t placed
  has_milestones = record {
    same = placed_same;
    early = λ q lt. subst (λ (v : ℕ). v ≤ t q) (sym (placed_milestone q)) (place_under lowers t q (lower net q));
  }

  module _ (low : AreDates (lower net) (points net) lowers) where
    -- the greatest rank that the milestone of a date can have
    rank_of : ℕ → ℕ
    rank_of k = (least_from t (date_at lowers k).number (t (date_at lowers k).point) lowers).0

    is_date : (k : ℕ) → k < length lowers → IsDateOfPoint (lower net) (points net) (date_at lowers k)
    is_date k lt = All-get_or (IsDateOfPoint (lower net) (points net)) lowers k no_date lt low.right

    at_milestone : (k : ℕ) → k < length lowers → placed (milestone_of (points net) lowers k) ≡ rank_of k
    unfolding rank_of place_by
    at_milestone k lt = placed_milestone (date_at lowers k).point ∙ ap (place_by lowers t (date_at lowers k).point) (is_date k lt).1

    pub placed_most : (k : ℕ) → k < length lowers → IsAtMost (points net) lowers k placed
    placed_most k lt = subst (λ (v : ℕ). placed (milestone_of (points net) lowers k) ≤ v) (sym (placed_same (date_at lowers k).point (is_date k lt).0)) (has_milestones.early (date_at lowers k).point (is_date k lt).0)

    -- what is not past the points of dates from a number on is not past the milestone of the first of these
    up_to_milestone : (k z : ℕ) → k < length lowers → ((d : Date) → Contains lowers d → (date_at lowers k).number ≤ℤ d.number → z ≤ t d.point) → z ≤ placed (milestone_of (points net) lowers k)
    unfolding rank_of
    up_to_milestone k z lt under =
        let x = (date_at lowers k).number in
        let here : z ≤ t (date_at lowers k).point = under (date_at lowers k) (Contains-get_or lowers k no_date lt) (omega (arith, ints)) in
        subst (λ (v : ℕ). z ≤ v) (sym (at_milestone k lt))
        ((least_from t x (t (date_at lowers k).point) lowers).3 z here (All-weaker (Contains lowers) (λ (d : Date). x ≤ℤ d.number → z ≤ t d.point) (λ d has. under d has) lowers (All-contains_itself lowers)))

    -- a milestone is not past the points of dates from its number on
    milestone_under : (k : ℕ) (d : Date) → k < length lowers → Contains lowers d → (date_at lowers k).number ≤ℤ d.number → placed (milestone_of (points net) lowers k) ≤ t d.point
    unfolding rank_of
    milestone_under k d lt has le =
        let x = (date_at lowers k).number in
        let least = least_from t x (t (date_at lowers k).point) lowers in
        subst (λ (v : ℕ). v ≤ t d.point) (sym (at_milestone k lt)) (All-contains (λ (e : Date). x ≤ℤ e.number → least.0 ≤ t e.point) lowers d least.2 has le)

    pub placed_next : AreAscending lowers → (k : ℕ) → k + 1 < length lowers → IsBeforeNext (points net) lowers k placed
    placed_next sorted k lt = up_to_milestone (k + 1) (placed (milestone_of (points net) lowers k)) lt (λ d has le.
        let step : (date_at lowers k).number ≤ℤ (date_at lowers (k + 1)).number = ascending lowers k (k + 1) no_date sorted (omega arith) lt in
        milestone_under k d (omega arith) has (omega (arith, ints)))

    pub placed_leads : (strict : Bool) (upper : Date) → upper.point < points net → FollowsAll lowers upper t → LeadsToFirst (points net) lowers strict upper placed
    placed_leads false upper within all k first =
        subst (λ (v : ℕ). v ≤ placed (milestone_of (points net) lowers k)) (sym (placed_same upper.point within))
        (up_to_milestone k (t upper.point) first.within (λ d has le.
        let from : upper.number ≤ℤ (date_at lowers k).number = first.from in
        weak_from upper.number d.number (t upper.point) (t d.point) (All-contains (λ (l : Date). FollowsDate upper l t) lowers d all has) (omega (arith, ints))))
    placed_leads true upper within all k first =
        subst (λ (v : ℕ). v < placed (milestone_of (points net) lowers k)) (sym (placed_same upper.point within))
        (let more = up_to_milestone k (t upper.point + 1) first.within (λ d has le.
        let past : upper.number <ℤ (date_at lowers k).number = first.from in
        let less = (All-contains (λ (l : Date). FollowsDate upper l t) lowers d all has).0 (omega (arith, ints)) in
        omega arith) in
        omega arith)

-- ---- orders that say so

-- orders that say one thing, and then another
pub extends_both : (n : ℕ) (P Q : Timeline → Type 0) (start now next : List Atom) → ExtendsOrders n P start now → ExtendsOrders n Q now next → ExtendsOrders n (λ t. P t × Q t) start next
extends_both n P Q start now next one two = record {
  in_range = two.in_range;
  exact = λ t. (
    λ all. let second = (two.exact t).0 all in let first = (one.exact t).0 second.0 in (first.0, (first.1, second.1)),
    λ both. (two.exact t).1 ((one.exact t).1 (both.0, both.1.0), both.1.1),
  );
}

-- orders that say that one milestone more is no later than the next one
pub next_more : (n m : ℕ) (dates : List Date) (k : ℕ) (start now next : List Atom) → 1 ≤ k
    → ExtendsOrders n (λ t. (j : ℕ) → j + 1 < k → IsBeforeNext m dates j t) start now → ExtendsOrders n (λ t. t (milestone_of m dates (k - 1)) ≤ t (milestone_of m dates k)) now next
    → ExtendsOrders n (λ t. (j : ℕ) → j + 1 < k + 1 → IsBeforeNext m dates j t) start next
next_more n m dates k start now next some so_far this = record {
  in_range = this.in_range;
  exact = λ t. (
    λ all.
        let one = (this.exact t).0 all in
        let before = (so_far.exact t).0 one.0 in (
          before.0,
          λ j lt. elim (cases_lt (j + 1) k) [
            | inl less ↦ before.1 j less
            | inr last ↦
                let first : k - 1 ≡ j = omega arith in
                let second : k ≡ j + 1 = omega arith in
                subst (λ (i : ℕ). t (milestone_of m dates j) ≤ t (milestone_of m dates i)) second (subst (λ (i : ℕ). t (milestone_of m dates i) ≤ t (milestone_of m dates k)) first one.1)
          ],
        ),
    λ both.
        let here = both.1 (k - 1) (omega arith) in
        let last : k - 1 + 1 ≡ k = omega arith in
        (this.exact t).1 ((so_far.exact t).1 (both.0, λ j lt. both.1 j (omega arith)), subst (λ (i : ℕ). t (milestone_of m dates (k - 1)) ≤ t (milestone_of m dates i)) last here),
  );
}

-- the order of a point and the milestone of the one date that is the first says that it leads to the first
pub leads_to_place : (n : ℕ) (dates : List Date) (strict : Bool) (upper : Date) (place : ℕ) (t : Timeline) → IsPlaceFrom dates strict upper.number place → place < length dates
    → IsInOrder strict (t upper.point) (t (milestone_of n dates place)) ↔ LeadsToFirst n dates strict upper t
leads_to_place n dates strict upper place t is lt = (
  λ holds k first. subst (λ (j : ℕ). IsInOrder strict (t upper.point) (t (milestone_of n dates j))) (sym ((is k first.within).0 first)) holds,
  λ leads. leads place ((is place lt).1 refl),
)

-- where there is no such date nothing is to be said
pub leads_nowhere : (n : ℕ) (dates : List Date) (strict : Bool) (upper : Date) (place : ℕ) (t : Timeline) → IsPlaceFrom dates strict upper.number place → length dates ≤ place
    → LeadsToFirst n dates strict upper t
leads_nowhere n dates strict upper place t is past k first = let within = first.within in let here = (is k within).0 first in absurd (omega arith)

-- all that the orders of milestones say
pub record SaysMilestones (net : PlainNet) (lowers uppers : List Date) (orders : List Atom) : Type 0 where
  pub in_range : AreInRange (2 * points net) orders
  pub exact : (t : Timeline) → SatisfiesAll orders t ↔ (
      ((k : ℕ) → k < length lowers → IsAtMost (points net) lowers k t) × ((k : ℕ) → k + 1 < length lowers → IsBeforeNext (points net) lowers k t)
      × All (λ (upper : Date). ArePlacedBefore (points net) lowers upper t) uppers)

-- is what the calendar says
pub dates_by_milestones : (net : PlainNet) (lowers uppers : List Date) (orders : List Atom) → AreDates (lower net) (points net) lowers → AreAscending lowers → AreDates (upper net) (points net) uppers
    → SaysMilestones net lowers uppers orders → SaysDates net orders
dates_by_milestones net lowers uppers orders low sorted up says = record {
  in_range = says.in_range;
  placed = λ t keeps.
      let follow = (dates_said net uppers lowers up low t).1 keeps in
      let u = placed net lowers t in (
        u,
        has_milestones net lowers t,
        (says.exact u).1 (
          placed_most net lowers t low,
          placed_next net lowers t low sorted,
          All-weaker (Contains uppers) (λ (upper : Date). ArePlacedBefore (points net) lowers upper u) (λ date has.
              let within = (All-contains (IsDateOfPoint (upper net) (points net)) uppers date up.right has).0 in
              let all = All-contains (λ (d : Date). FollowsAll lowers d t) uppers date follow has in
              (placed_leads net lowers t low false date within all, placed_leads net lowers t low true date within all))
              uppers (All-contains_itself uppers),
        ),
      );
  kept = λ t holds.
      let all = (says.exact t).0 holds in
      (dates_said net uppers lowers up low t).0
      (All-weaker (λ (upper : Date). ArePlacedBefore (points net) lowers upper t) (λ (upper : Date). FollowsAll lowers upper t) (λ date leads. follow_milestones (points net) lowers t all.0 all.1 date leads.0 leads.1) uppers all.2);
}

-- the orders of the calendar, and that one interval more starts before it ends
pub span_more : (net : PlainNet) (i : ℕ) (orders next : List Atom) → i < intervals net → SaysByMilestones net (λ t. IsFixedBelow i t × KeepsDates net t) orders
    → ExtendsOrders (2 * points net) (λ t. Satisfies t (before (2 * i) (2 * i + 1))) orders next → SaysByMilestones net (λ t. IsFixedBelow (i + 1) t × KeepsDates net t) next
span_more net i orders next lt says more = record {
  in_range = more.in_range;
  placed = λ t holds.
      let at = says.placed t (λ j less. holds.0 j (omega arith), holds.1) in
      let first = at.1.same (2 * i) (omega arith) in
      let last = at.1.same (2 * i + 1) (omega arith) in
      let span : t (2 * i) < t (2 * i + 1) = holds.0 i (omega arith) in
      (at.0, at.1, (more.exact at.0).1 (at.2, omega (arith, first, last, span)));
  kept = λ t all.
      let both = (more.exact t).0 all in
      let old = says.kept t both.0 in
      (below_more (λ j. StartsFirst t j) i old.0 both.1, old.1);
}

-- no interval yet
pub no_span : (net : PlainNet) (orders : List Atom) → SaysDates net orders → SaysByMilestones net (λ t. IsFixedBelow 0 t × KeepsDates net t) orders
no_span net orders says = record {
  in_range = says.in_range;
  placed = λ t holds. says.placed t holds.1;
  kept = λ t all. (λ j lt. absurd (omega arith), says.kept t all);
}

-- the same orders in another sequence say the same
pub says_permuted : (net : PlainNet) (IsTrue : Timeline → Type 0) (orders moved : List Atom) → IsPermutation orders moved → SaysByMilestones net IsTrue orders → SaysByMilestones net IsTrue moved
says_permuted net IsTrue orders moved permuted says = record {
  in_range = All-permutation (IsInRange (2 * points net)) orders moved permuted says.in_range;
  placed = λ t holds. let at = says.placed t holds in (at.0, at.1, All-permutation (Satisfies at.0) orders moved permuted at.2);
  kept = λ t all. says.kept t (All-weaker (Contains orders) (Satisfies t) (λ order has. All-contains (Satisfies t) moved order all (Contains-permutation orders moved order permuted has)) orders (All-contains_itself orders));
}
