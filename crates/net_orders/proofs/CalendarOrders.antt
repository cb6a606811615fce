-- Few orders that say what all orders of the calendar say.
use Rattle.std.proofs.Common.{◌≡◌, ◌↔◌, ◌⊎◌, ℕ, ◌+◌, ◌*◌, ◌/◌, ◌%◌, ◌<◌, ◌≤◌, ◌==◌, ℤ, ◌<ℤ◌, ◌≤ℤ◌, int_le, int_lt, List, length, get_or, Option, Some, None, IfSome, IsSomeAnd, Bool, true, false, cond, if◌then◌else◌, refl, sym, subst, ◌∙◌, arith, inl, inr, below_more}
use Rattle.std.specs.List.{All, Contains}
use Rattle.std.specs.Option.{option_or}
use Rattle.std.proofs.lemmas.Bool.{cases_lt}
use Rattle.std.proofs.lemmas.Int.{ints}
use Rattle.std.proofs.lemmas.List.{get_or_default}
use Rattle.std.proofs.lemmas.List.Elements.{All-contains, All-contains_itself, All-from_get_or, All-get_or, All-weaker, Contains-get_or}
use Rattle.net_core.specs.Bounds.{lower_of, upper_of}
use Rattle.net_core.specs.Fits.{FollowsNumbers}
use Rattle.net_core.specs.Nets.{PlainNet, bounds_at, lower, points, upper}
use Rattle.net_core.specs.Relations.{Timeline}
use Rattle.net_core.specs.declared.atom.Atom.{Atom}
use Rattle.net_core.specs.declared.bounds.Bounds.{Bounds}
use Rattle.net_core.specs.declared.bounds.Bounds.TheVariants.{Exact, Within, Free}
use Rattle.order_closure.specs.Tables.{SatisfiesAll}
use Rattle.walks.specs.Dates.{AreAscending, AreDates, AreDescending, AreDatesFrom, IsDateOfPoint}
use Rattle.walks.specs.declared.dates.Date.{Date}
use Rattle.walks.proofs.DateLaws.{ascending, descending, no_date}
use Rattle.net_orders.specs.Dates.{ExtendsOrders, ExtendsWithSpans, FollowsDate, FollowsAll, PutsBefore, PutsGreaterBefore, PutsLastBefore, earlier, end_after, end_of, only_after}
use Rattle.net_orders.specs.Steps.{KeepsDates, KeepsSpans}
use Rattle.net_orders.proofs.DateOrders.{dates_said}
use Rattle.net_orders.proofs.Steps.{Below, all_below}

-- what a test of two numbers says
by_test : (x y : ℤ) (b : Bool) → int_le x y ≡ b → (x ≤ℤ y) ⊎ (y <ℤ x)
by_test x y true e = inl (grind (arith, ints))
by_test x y false e = inr (grind (arith, ints))

-- one number is not above another, or the other is below it
pub by_number : (x y : ℤ) → (x ≤ℤ y) ⊎ (y <ℤ x)
by_number x y = by_test x y (int_le x y) refl

-- the order of numbers says nothing of a lower number below an upper one
not_after : (x y : ℤ) (m n : ℕ) → y <ℤ x → FollowsNumbers (Some x) (Some y) m n
not_after x y m n less = (λ lt. absurd (omega (arith, ints)), λ e. absurd (omega (arith, ints)))

-- a point follows another if it follows one whose number is between theirs, and that one follows the other
through : (x y z : ℤ) (l m n : ℕ) → x ≤ℤ y → y ≤ℤ z → FollowsNumbers (Some x) (Some y) l m → FollowsNumbers (Some y) (Some z) m n → FollowsNumbers (Some x) (Some z) l n
through x y z l m n le lt first second = (λ less. grind (arith, ints), λ e. grind (arith, ints))

-- if a point has the number of another and is not after it, all points with lower numbers that follow the other follow it too
all_through : (first mid : Date) (lowers : List Date) (t : Timeline) → first.number ≡ mid.number → FollowsDate first mid t → FollowsAll lowers mid t → FollowsAll lowers first t
all_through first mid lowers t same one all =
    All-weaker (λ (l : Date). FollowsDate mid l t) (λ (l : Date). FollowsDate first l t) (λ l h. elim (by_number mid.number l.number) [
      | inl le ↦ through first.number mid.number l.number (t first.point) (t mid.point) (t l.point) (omega (arith, ints)) le one h
      | inr lt ↦ not_after first.number l.number (t first.point) (t l.point) (subst (λ (x : ℤ). l.number <ℤ x) (sym same) lt)
    ]) lowers all

-- All points with lower numbers follow a point, if those before place k of the dates from its number on do, and so the rest.
all_from : (upper : Date) (lowers later : List Date) (k : ℕ) (t : Timeline) → AreDatesFrom upper.number lowers later → k ≤ length later
    → (Below (λ i. FollowsDate upper (get_or later i no_date)) k t → (i : ℕ) → k ≤ i → i < length later → FollowsDate upper (get_or later i no_date) t)
    → Below (λ i. FollowsDate upper (get_or later i no_date)) k t ↔ FollowsAll lowers upper t
all_from upper lowers later k t are le rest = (
  λ below.
      let every : All (λ (l : Date). FollowsDate upper l t) later = All-from_get_or (λ (l : Date). FollowsDate upper l t) later no_date (λ i lt. elim (cases_lt i k) [
        | inl less ↦ below i less
        | inr ge ↦ rest below i ge lt
      ]) in
      All-weaker (Contains lowers) (λ (l : Date). FollowsDate upper l t) (λ l stands. elim (by_number upper.number l.number) [
        | inl from ↦ All-contains (λ (l : Date). FollowsDate upper l t) later l every ((are l).1 (stands, from))
        | inr before ↦ not_after upper.number l.number (t upper.point) (t l.point) before
      ]) lowers (All-contains_itself lowers),
  λ all. λ i lt. All-contains (λ (l : Date). FollowsDate upper l t) lowers (get_or later i no_date) all
      ((are (get_or later i no_date)).0 (Contains-get_or later i no_date (omega arith))).0,
)

-- that is so with all dates from its number on
pub all_later : (upper : Date) (lowers later : List Date) (t : Timeline) → AreDatesFrom upper.number lowers later
    → Below (λ i. FollowsDate upper (get_or later i no_date)) (length later) t ↔ FollowsAll lowers upper t
all_later upper lowers later t are = all_from upper lowers later (length later) t are (omega arith) (λ below i ge lt. absurd (omega arith))

-- if the first k dates from its number on follow a point, so do all whose numbers are not below this one
abbrev pub PutsRest : PlainNet → List Date → List Atom → Date → List Date → ℕ → ℤ → Type 0
PutsRest net lowers orders upper later k end =
    (t : Timeline) → KeepsSpans net t → SatisfiesAll orders t → Below (λ i. FollowsDate upper (get_or later i no_date)) k t → (lower : Date) → Contains lowers lower → end ≤ℤ lower.number → FollowsDate upper lower t

-- that is so with more of these dates
pub rest_more : (net : PlainNet) (lowers : List Date) (orders : List Atom) (upper : Date) (later : List Date) (k : ℕ) (end : Option ℤ)
    → IfSome end (PutsRest net lowers orders upper later k) → IfSome end (PutsRest net lowers orders upper later (k + 1))
rest_more net lowers orders upper later k None h = h
rest_more net lowers orders upper later k (Some end) h = λ t spans all below. h t spans all (λ j lt. below j (omega arith))

-- all points with lower numbers follow a point, if the dates before the first one from such a number on do
pub up_to_end : (net : PlainNet) (upper : Date) (lowers later : List Date) (orders : List Atom) (k : ℕ) (end : ℤ) (t : Timeline) → AreDatesFrom upper.number lowers later → AreAscending later
    → k < length later → end ≤ℤ (get_or later k no_date).number → PutsRest net lowers orders upper later k end → KeepsSpans net t → SatisfiesAll orders t
    → Below (λ i. FollowsDate upper (get_or later i no_date)) k t ↔ FollowsAll lowers upper t
up_to_end net upper lowers later orders k end t are sorted lt le rest spans all = all_from upper lowers later k t are (omega arith) (λ below i ge li.
    let last = get_or later i no_date in
    rest t spans all below last ((are last).0 (Contains-get_or later i no_date li)).0 (omega (arith, ints, ascending later k i no_date sorted ge li)))

-- what follows from a number, if there is one, follows
pub from_number : {R : Type 0} (P Q : ℤ → Type 0) (end : Option ℤ) → IsSomeAnd end P → IfSome end Q → ((x : ℤ) → P x → Q x → R) → R
from_number P Q (Some x) is known follows = follows x is known
from_number P Q None is known follows = absurd is

-- what is true of each of two numbers is true of the lesser
by_choice : (P : ℤ → Type 0) (x y : ℤ) (b : Bool) → P x → P y → P (cond b y x)
by_choice P x y true one other = other
by_choice P x y false one other = one

pub earlier_holds : (P : ℤ → Type 0) (x y : Option ℤ) → IfSome x P → IfSome y P → IfSome (earlier x y) P
earlier_holds P (Some x) (Some y) one other = by_choice P x y (int_lt y x) one other
earlier_holds P (Some x) None one other = one
earlier_holds P None y one other = other

-- what is true of a number above another
by_after : (P : ℤ → Type 0) (x y : ℤ) (b : Bool) → int_lt x y ≡ b → (x <ℤ y → P y) → IfSome (if b then Some y else None) P
by_after P x y true e holds = holds (grind (arith, ints))
by_after P x y false e holds = tt

one_after : (P : ℤ → Type 0) (number : ℤ) (end : Option ℤ) → ((m : ℤ) → number <ℤ m → end ≡ Some m → P m) → IfSome (only_after number end) P
one_after P number (Some m) holds = by_after P number m (int_lt number m) refl (λ less. holds m less refl)
one_after P number None holds = tt

either_holds : (P : ℤ → Type 0) (x y : Option ℤ) → IfSome x P → IfSome y P → IfSome (option_or x y) P
either_holds P (Some x) y one other = one
either_holds P None y one other = other

-- a point with both numbers has the same one twice
same_of : (bounds : Bounds) (is_end : Bool) (x y : ℤ) → lower_of bounds is_end ≡ Some x → upper_of bounds is_end ≡ Some y → x ≡ y
same_of (Exact lo hi) is_end x y low up = cc
same_of (Within lo hi) true x y low up = cc
same_of (Within lo hi) false x y low up = cc
same_of Free is_end x y low up = cc

-- a point is before the end of its interval, or is that end
to_end : (net : PlainNet) (t : Timeline) (p : ℕ) → KeepsSpans net t → p < points net → (t p < t (end_of p)) ⊎ (end_of p ≡ p)
to_end net t p spans lt = elim (cases_lt (p % 2) 1) [
  | inl even ↦
      let start : 2 * (p / 2) ≡ p = omega arith in
      inl (subst (λ (q : ℕ). t q < t (end_of p)) start (spans (p / 2) (omega arith)))
  | inr odd ↦ inr (omega arith)
]

-- a point is before what comes after one that follows it
reaches : (x y z : ℤ) (l m n : ℕ) → x ≤ℤ y → x <ℤ z → FollowsNumbers (Some x) (Some y) l m → m < n → FollowsNumbers (Some x) (Some z) l n
reaches x y z l m n le less first lt = (λ any. grind (arith, ints), λ e. absurd (omega (arith, ints)))

module _ (net : PlainNet) (upper_date : Date) (lowers later : List Date) (orders : List Atom) (low : AreDates (lower net) (points net) lowers) (above : PutsGreaterBefore net lowers orders upper_date.number)
    (are : AreDatesFrom upper_date.number lowers later) (k : ℕ) (within : k < length later) where
  -- the last of these dates
  abbrev this : Date
  this = get_or later k no_date

  listed : Contains lowers this × (upper_date.number ≤ℤ this.number)
  listed = (are this).0 (Contains-get_or later k no_date within)

  is_lower : IsDateOfPoint (lower net) (points net) this
  is_lower = All-contains (IsDateOfPoint (lower net) (points net)) lowers this low.right listed.0

  -- what follows a point with a greater upper number that follows a point
  past : (end : Date) → IsDateOfPoint (upper net) (points net) end → upper_date.number <ℤ end.number
      → ((t : Timeline) → KeepsSpans net t → FollowsDate upper_date this t → FollowsDate upper_date end t) → PutsRest net lowers orders upper_date later (k + 1) end.number
  past end is less first t spans all below date stands le =
      through upper_date.number end.number date.number (t upper_date.point) (t end.point) (t date.point) (omega (arith, ints)) le (first t spans (below k (omega arith)))
      (All-contains (λ (l : Date). FollowsDate end l t) lowers date (above end is less t spans all) stands)

  own : (m : ℤ) → upper_date.number <ℤ m → upper net this.point ≡ Some m → PutsRest net lowers orders upper_date later (k + 1) m
  own m less is =
      let end : Date = record { number = m; point = this.point } in
      let same : this.number ≡ m = same_of (bounds_at net (this.point / 2)) (this.point % 2 == 1) this.number m is_lower.1 is in
      past end (is_lower.0, is) less (λ t spans first. subst (λ (x : ℤ). FollowsNumbers (Some upper_date.number) (Some x) (t upper_date.point) (t this.point)) same first)

  of_end : (m : ℤ) → upper_date.number <ℤ m → upper net (end_of this.point) ≡ Some m → PutsRest net lowers orders upper_date later (k + 1) m
  of_end m less is =
      let end : Date = record { number = m; point = end_of this.point } in
      let lt : this.point < points net = is_lower.0 in
      elim (cases_lt (this.point % 2) 1) [
        | inl even ↦ past end (omega arith, is) less (λ t spans first. elim (to_end net t this.point spans lt) [
          | inl before ↦ reaches upper_date.number this.number m (t upper_date.point) (t this.point) (t end.point) listed.1 less first before
          | inr same ↦ absurd (omega arith)
        ])
        | inr odd ↦
            let same : end_of this.point ≡ this.point = omega arith in
            own m less (subst (λ (p : ℕ). upper net p ≡ Some m) same is)
      ]

  -- from the first end after its number on, all points with lower numbers follow a point that the last of these dates follows
  pub puts_rest : IfSome (end_after net this.point upper_date.number) (PutsRest net lowers orders upper_date later (k + 1))
  puts_rest =
      let Rest = PutsRest net lowers orders upper_date later (k + 1) in
      either_holds Rest (only_after upper_date.number (upper net this.point)) (only_after upper_date.number (upper net (end_of this.point)))
      (one_after Rest upper_date.number (upper net this.point) own) (one_after Rest upper_date.number (upper net (end_of this.point)) of_end)

-- the dates from a number on are of points of the net
pub later_within : (net : PlainNet) (lowers later : List Date) (number : ℤ) (k : ℕ) → AreDates (lower net) (points net) lowers → AreDatesFrom number lowers later
    → k < length later → Contains lowers (get_or later k no_date) × ((get_or later k no_date).point < points net)
later_within net lowers later number k low are lt =
    let date = get_or later k no_date in
    let stands = ((are date).0 (Contains-get_or later k no_date lt)).0 in
    (stands, (All-contains (IsDateOfPoint (lower net) (points net)) lowers date low.right stands).0)

-- orders that say one thing more
pub extends_more : (n : ℕ) (IsTrue : ℕ → Timeline → Type 0) (k : ℕ) (start now next : List Atom)
    → ExtendsOrders n (Below IsTrue k) start now → ExtendsOrders n (IsTrue k) now next → ExtendsOrders n (Below IsTrue (k + 1)) start next
extends_more n IsTrue k start now next so_far this = record {
  in_range = this.in_range;
  exact = λ t. (
    λ all. let one = (this.exact t).0 all in let before = (so_far.exact t).0 one.0 in (before.0, below_more (λ j. IsTrue j t) k before.1 one.1),
    λ both. (this.exact t).1 ((so_far.exact t).1 (both.0, λ j lt. both.1 j (omega arith)), both.1 k (omega arith)),
  );
}

-- the same of something that is true where it is
pub extends_same : (n : ℕ) (P Q : Timeline → Type 0) (old new : List Atom) → ((t : Timeline) → SatisfiesAll old t → P t ↔ Q t) → ExtendsOrders n P old new → ExtendsOrders n Q old new
extends_same n P Q old new same h = record {
  in_range = h.in_range;
  exact = λ t. (
    λ all. let both = (h.exact t).0 all in (both.0, (same t both.0).0 both.1),
    λ both. (h.exact t).1 (both.0, (same t both.0).1 both.1),
  );
}

-- the same of something that is true where it is, in timelines in which each interval starts before it ends
pub extends_with_spans : (net : PlainNet) (P Q : Timeline → Type 0) (old new : List Atom) → ((t : Timeline) → KeepsSpans net t → SatisfiesAll old t → P t ↔ Q t)
    → ExtendsOrders (points net) P old new → ExtendsWithSpans net Q old new
extends_with_spans net P Q old new same h = record {
  in_range = h.in_range;
  exact = λ t spans. (
    λ all. let both = (h.exact t).0 all in (both.0, (same t spans both.0).0 both.1),
    λ both. (h.exact t).1 (both.0, (same t spans both.0).1 both.1),
  );
}

-- if the order to the last fixed point with the same number is pushed, all points with lower numbers follow
pub same_as_last : (net : PlainNet) (upper fixed : Date) (lowers : List Date) (old new : List Atom) → fixed.number ≡ upper.number → Contains lowers fixed → PutsBefore net lowers old fixed
    → ExtendsOrders (points net) (FollowsDate upper fixed) old new → ExtendsWithSpans net (FollowsAll lowers upper) old new
same_as_last net upper fixed lowers old new same stands puts h = extends_with_spans net (FollowsDate upper fixed) (FollowsAll lowers upper) old new (λ t spans all. (
  λ one. all_through upper fixed lowers t (sym same) one (puts t spans all),
  λ every. All-contains (λ (l : Date). FollowsDate upper l t) lowers fixed every stands,
)) h

-- a number that is not above another
not_greater : (d date : Date) (x : ℤ) → d ≡ date → d.number ≤ℤ x → x <ℤ date.number → ⊥
not_greater d date x e le lt = let le_too = subst (λ (z : Date). z.number ≤ℤ x) e le in omega (arith, ints)

module _ (net : PlainNet) (uppers lowers : List Date) (up : AreDates (upper net) (points net) uppers) (low : AreDates (lower net) (points net) lowers) (orders : List Atom) (k : ℕ)
    (said : (t : Timeline) → KeepsSpans net t → SatisfiesAll orders t ↔ Below (λ j. FollowsAll lowers (get_or uppers j no_date)) k t) where
  -- what the orders of the first dates say of each point with a greater upper number
  pub greater_said : AreDescending uppers → k < length uppers → PutsGreaterBefore net lowers orders (get_or uppers k no_date).number
  greater_said sorted lt date is less t spans all =
      let at = up.whole date.point date.number is.0 is.1 in
      let here : get_or uppers at.0 no_date ≡ date = get_or_default uppers at.0 no_date date at.1 ∙ at.2 in
      elim (cases_lt at.0 k) [
        | inl before ↦ subst (λ (d : Date). FollowsAll lowers d t) here ((said t spans).0 all at.0 before)
        | inr after ↦ absurd (not_greater (get_or uppers at.0 no_date) date (get_or uppers k no_date).number here (descending uppers k at.0 no_date sorted after at.1) less)
      ]

  -- with orders that say so of one date more
  module _ (next : List Atom) (more : ExtendsWithSpans net (FollowsAll lowers (get_or uppers k no_date)) orders next) where
    -- all points with lower numbers follow each date so far
    pub said_more : (t : Timeline) → KeepsSpans net t → SatisfiesAll next t ↔ Below (λ j. FollowsAll lowers (get_or uppers j no_date)) (k + 1) t
    said_more t spans = (
      λ all. let one = (more.exact t spans).0 all in below_more (λ j. FollowsAll lowers (get_or uppers j no_date) t) k ((said t spans).0 one.0) one.1,
      λ below. (more.exact t spans).1 ((said t spans).1 (λ j lt. below j (omega arith)), below k (omega arith)),
    )

    -- that date may be the last fixed point
    pub last_said : k < length uppers → lower net (get_or uppers k no_date).point ≡ Some (get_or uppers k no_date).number → PutsLastBefore net lowers next (Some (get_or uppers k no_date))
    last_said lt fixed =
        let date = get_or uppers k no_date in
        let is = All-get_or (IsDateOfPoint (upper net) (points net)) uppers k no_date lt up.right in
        (low.whole date.point date.number is.0 fixed, λ t spans all. ((more.exact t spans).0 all).1)

    -- the last fixed point may be the one that it was
    pub last_kept : (last : Option Date) → PutsLastBefore net lowers orders last → PutsLastBefore net lowers next last
    last_kept (Some fixed) h = (h.0, λ t spans all. h.1 t spans ((more.exact t spans).0 all).0)
    last_kept None h = h

  -- they say the calendar if these are all dates
  pub calendar_said : k ≡ length uppers → (t : Timeline) → KeepsSpans net t → SatisfiesAll orders t ↔ KeepsDates net t
  calendar_said end t spans =
      let all = all_below (λ (u : Date). FollowsAll lowers u) uppers no_date t in
      let dates = dates_said net uppers lowers up low t in
      let below = subst (λ (n : ℕ). SatisfiesAll orders t ↔ Below (λ j. FollowsAll lowers (get_or uppers j no_date)) n t) end (said t spans) in
      (λ holds. dates.0 (all.0 (below.0 holds)), λ keeps. below.1 (all.1 (dates.1 keeps)))
