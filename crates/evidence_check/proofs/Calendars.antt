-- The events of a calendar: what they say of a timeline in order is what all pairs of points do.
use Rattle.std.proofs.Common.{◌≡◌, ◌↔◌, ◌⊎◌, inl, inr, ℕ, ◌+◌, max, ◌<◌, ◌≤◌, ℤ, ◌<ℤ◌, true, false, List, [], ◌++◌, length, Option, Some, None, Ordering, Less, Equal, Greater, is_lt, int_cmp, nat_cmp, refl, sym, subst, below_more, arith}
use Rattle.std.specs.List.{All, Contains}
use Rattle.std.specs.List.Sorted.{IsPermutation}
use Rattle.std.specs.Cmp.{IsTotalOrder}
use Rattle.std.specs.Ordering.{MatchOrdering, ordering_then}
use Rattle.std.proofs.lemmas.Bool.{cases_lt}
use Rattle.std.proofs.lemmas.Cmp.{int_cmp_total, int_ranked, nat_cmp_total, on_total, then_total}
use Rattle.std.proofs.lemmas.Int.{ints}
use Rattle.std.proofs.lemmas.List.{get_or_default}
use Rattle.std.proofs.lemmas.List.Elements.{All-append, All-cons, All-get_or, All-nil, Contains-append_left, Contains-append_right}
use Rattle.std.proofs.lemmas.List.Sorted.{All-permutation, Contains-permutation, ranks_by, sorted_far}
use Rattle.net_core.specs.Fits.{FollowsNumbers, KeepsCalendar}
use Rattle.net_core.specs.Nets.{PlainNet, lower, points, upper}
use Rattle.net_core.specs.Relations.{Timeline}
use Rattle.evidence_check.specs.declared.calendar.Event.{Event}
use Rattle.evidence_check.specs.declared.calendar.Kind.{Kind}
use Rattle.evidence_check.specs.declared.calendar.Kind.TheVariants.{Upper, Lower, Past}
use Rattle.evidence_check.specs.Calendar.{Allow, AreEvents, AreEventsInOrder, IsAllowedAt, IsCalendar, IsEvent, KeepsEvents, event_at, events_of, least_after, calendar_number, place_cmp, event_key, turn_of}

-- ---- the events of a net, point by point

-- the event of a point of the net at its number is one of the net
events_right : (net : PlainNet) (kind : Kind) (p : ℕ) (number : Option ℤ) → p < points net → calendar_number kind net p ≡ number → All (IsEvent net) (events_of kind p number)
events_right net kind p (Some x) below is = All-cons (IsEvent net) (record { number = x; point = p; kind = kind }) [] (below, is) (All-nil (IsEvent net))
events_right net kind p None below is = All-nil (IsEvent net)

-- and it is there
has_event : (kind : Kind) (p : ℕ) (x : ℤ) (number : Option ℤ) → number ≡ Some x → Contains (events_of kind p number) (record { number = x; point = p; kind = kind })
has_event kind p x number e =
    subst (λ (n : Option ℤ). Contains (events_of kind p n) (record { number = x; point = p; kind = kind })) (sym e) (0, omega arith, refl)

-- and it is one at most
pub few_events : (kind : Kind) (p : ℕ) (number : Option ℤ) → length (events_of kind p number) ≤ 1
few_events kind p (Some x) = omega arith
few_events kind p None = omega arith

-- those of one point more
pub more_events : (net : PlainNet) (p : ℕ) (es : List Event) → p < points net → AreEvents net p es
    → AreEvents net (p + 1) (((es ++ events_of Upper p (upper net p)) ++ events_of Lower p (lower net p)) ++ events_of Past p (upper net p))
more_events net p es below h = record {
  right = All-append (IsEvent net) ((es ++ uppers) ++ lowers) pasts
      (All-append (IsEvent net) (es ++ uppers) lowers (All-append (IsEvent net) es uppers h.right (events_right net Upper p (upper net p) below refl)) (events_right net Lower p (lower net p) below refl))
      (events_right net Past p (upper net p) below refl);
  whole = λ kind q x lq is. below_more (λ (r : ℕ). calendar_number kind net r ≡ Some x → Contains all (record { number = x; point = r; kind = kind })) p
      (λ r lr e. Contains-append_left ((es ++ uppers) ++ lowers) pasts _ (Contains-append_left (es ++ uppers) lowers _ (Contains-append_left es uppers _ (h.whole kind r x lr e))))
      (last kind x) q lq is;
}
  where
    uppers : List Event
    uppers = events_of Upper p (upper net p)

    lowers : List Event
    lowers = events_of Lower p (lower net p)

    pasts : List Event
    pasts = events_of Past p (upper net p)

    all : List Event
    all = ((es ++ uppers) ++ lowers) ++ pasts

    last : (kind : Kind) (x : ℤ) → calendar_number kind net p ≡ Some x → Contains all (record { number = x; point = p; kind = kind })
    last Upper x e =
        Contains-append_left ((es ++ uppers) ++ lowers) pasts _ (Contains-append_left (es ++ uppers) lowers _ (Contains-append_right es uppers _ (has_event Upper p x (upper net p) e)))
    last Lower x e = Contains-append_left ((es ++ uppers) ++ lowers) pasts _ (Contains-append_right (es ++ uppers) lowers _ (has_event Lower p x (lower net p) e))
    last Past x e = Contains-append_right ((es ++ uppers) ++ lowers) pasts _ (has_event Past p x (upper net p) e)

-- in another order they are the same
pub events_sorted : (net : PlainNet) (n : ℕ) (es sorted : List Event) → IsPermutation es sorted → AreEvents net n es → AreEvents net n sorted
events_sorted net n es sorted moved h = record {
  right = All-permutation (IsEvent net) es sorted moved h.right;
  whole = λ kind p x below is. Contains-permutation es sorted (record { number = x; point = p; kind = kind }) moved (h.whole kind p x below is);
}

-- ---- the order of events

place_total : IsTotalOrder place_cmp
place_total = then_total (on_total (λ (place : ℤ × ℕ). place.0) int_cmp_total) (on_total (λ (place : ℤ × ℕ). place.1) nat_cmp_total)

less_by : (o p : Ordering) (x y : ℤ) → MatchOrdering o (x <ℤ y) (x ≡ y) (y <ℤ x) → x <ℤ y → is_lt (ordering_then o p) ≡ true
less_by Less p x y is less = refl
less_by Equal p x y is less = absurd (omega (arith, ints))
less_by Greater p x y is less = absurd (omega (arith, ints))

same_by : (o p : Ordering) (x y : ℤ) → MatchOrdering o (x <ℤ y) (x ≡ y) (y <ℤ x) → x ≡ y → is_lt p ≡ true → is_lt (ordering_then o p) ≡ true
same_by Less p x y is same e = refl
same_by Equal p x y is same e = e
same_by Greater p x y is same e = absurd (omega (arith, ints))

not_by : (o p : Ordering) (x y : ℤ) → MatchOrdering o (y <ℤ x) (y ≡ x) (x <ℤ y) → is_lt (ordering_then o p) ≡ false → (x <ℤ y) ⊎ ((x ≡ y) × (is_lt p ≡ false))
not_by Less p x y is e = absurd cc
not_by Equal p x y is e = inr (sym is, e)
not_by Greater p x y is e = inl is

-- the event of a lesser number comes first
number_first : (x y : ℤ) (m n : ℕ) → x <ℤ y → is_lt (place_cmp (x, m) (y, n)) ≡ true
number_first x y m n less = less_by (int_cmp x y) (nat_cmp m n) x y (int_ranked x y (int_cmp x y) refl) less

-- of one number, the event of a lesser turn does
turn_first : (x y : ℤ) (m n : ℕ) → x ≡ y → is_lt (nat_cmp m n) ≡ true → is_lt (place_cmp (x, m) (y, n)) ≡ true
turn_first x y m n same e = same_by (int_cmp x y) (nat_cmp m n) x y (int_ranked x y (int_cmp x y) refl) same e

-- an event that does not come first has no lesser number, and of one number no lesser turn
not_first : (x y : ℤ) (m n : ℕ) → is_lt (place_cmp (y, n) (x, m)) ≡ false → (x <ℤ y) ⊎ ((x ≡ y) × (is_lt (nat_cmp n m) ≡ false))
not_first x y m n e = not_by (int_cmp y x) (nat_cmp n m) x y (int_ranked y x (int_cmp y x) refl) e

-- what is read past the end
abbrev none : Event
none = event_at [] 0

-- a later event does not come before an earlier one
in_order : (es : List Event) (i j : ℕ) → AreEventsInOrder es → i ≤ j → j < length es → is_lt (place_cmp (event_key (event_at es j)) (event_key (event_at es i))) ≡ false
in_order es i j sorted le below = sorted_far (λ (x y : Event). is_lt (place_cmp (event_key x) (event_key y))) (ranks_by place_total event_key) es sorted i j none le below

-- an event that comes first stands before
stands_before : (es : List Event) (i j : ℕ) → AreEventsInOrder es → i < length es → is_lt (place_cmp (event_key (event_at es i)) (event_key (event_at es j))) ≡ true → i < j
stands_before es i j sorted below first = elim (cases_lt i j) [
  | inl less ↦ less
  | inr le ↦ absurd (let not_so = in_order es j i sorted le below in cc)
]

-- ---- one pass over the events

module _ (es : List Event) (t : Timeline) (i least : ℕ) (is : (rank : ℕ) → (least ≤ rank) ↔ Allow es t i rank) where
  -- a rank of at least this is allowed
  pub allowed_here : ((event_at es i).kind ≡ Lower → least ≤ t (event_at es i).point) → IsAllowedAt es t i
  allowed_here allows = λ lower. (is (t (event_at es i).point)).0 (allows lower)

  -- where a lesser one is asked for, the events are not kept
  pub not_kept : i < length es → (((event_at es i).kind ≡ Lower → least ≤ t (event_at es i).point) → ⊥) → KeepsEvents es t → ⊥
  not_kept below late kept = late (λ lower. (is (t (event_at es i).point)).1 (kept i below lower))

  -- one event more raises the least rank
  pub least_more : (more : ℕ) → more ≡ max least (least_after (event_at es i).kind (t (event_at es i).point)) → (rank : ℕ) → (more ≤ rank) ↔ Allow es t (i + 1) rank
  least_more more e rank = (
    λ le. below_more (λ (k : ℕ). least_after (event_at es k).kind (t (event_at es k).point) ≤ rank) i ((is rank).0 (omega (arith, le, e))) (omega (arith, le, e)),
    λ all. let before = (is rank).1 (λ k less. all k (omega (arith, less))) in let here = all i (omega arith) in omega (arith, before, here, e),
  )

-- ---- a timeline that keeps the events keeps all pairs of points in order, and the other way round

module _ (net : PlainNet) (es : List Event) (t : Timeline) (h : IsCalendar net es) where
  -- where an event of a point stands
  place : (kind : Kind) (p : ℕ) (x : ℤ) → p < points net → calendar_number kind net p ≡ Some x → (k : ℕ) × (k < length es) × (event_at es k ≡ record { number = x; point = p; kind = kind })
  place kind p x below is =
      let one : Event = record { number = x; point = p; kind = kind } in
      let there = h.complete.whole kind p x below is in
      (there.0, there.1, subst (λ (e : Event). e ≡ one) (get_or_default es there.0 one none there.1) there.2)

  -- the events of a point that come before the lower number of another allow the rank of the other
  allowed : (a b : Event) (i j : ℕ) → event_at es i ≡ a → event_at es j ≡ b → i < length es → j < length es → b.kind ≡ Lower
      → is_lt (place_cmp (event_key a) (event_key b)) ≡ true → KeepsEvents es t → least_after a.kind (t a.point) ≤ t b.point
  allowed a b i j ia jb li lj lower first kept =
      let first_here : is_lt (place_cmp (event_key (event_at es i)) (event_key (event_at es j))) ≡ true = rw (ia, jb) first in
      let lower_here : (event_at es j).kind ≡ Lower = subst (λ (e : Event). e.kind ≡ Lower) (sym jb) lower in
      let least = kept j lj lower_here i (stands_before es i j h.in_order li first_here) in
      subst (λ (e : Event). least_after a.kind (t a.point) ≤ t e.point) jb (subst (λ (e : Event). least_after e.kind (t e.point) ≤ t (event_at es j).point) ia least)

  -- what two points keep, by their numbers
  by_numbers : (u l : Option ℤ) (p q : ℕ) → p < points net → q < points net → upper net p ≡ u → lower net q ≡ l → KeepsEvents es t → FollowsNumbers u l (t p) (t q)
  by_numbers (Some u) (Some l) p q lp lq iu il kept =
      let past = place Past p u lp iu in
      let here = place Upper p u lp iu in
      let checked = place Lower q l lq il in (
        λ less. let le = allowed _ _ past.0 checked.0 past.2 checked.2 past.1 checked.1 refl (number_first u l 2 1 less) kept in omega (arith, le),
        λ same. allowed _ _ here.0 checked.0 here.2 checked.2 here.1 checked.1 refl (turn_first u l 0 1 same refl) kept,
      )
  by_numbers (Some u) None p q lp lq iu il kept = tt
  by_numbers None l p q lp lq iu il kept = tt

  -- what an event asks of a later one, by its kind
  by_kind : (kind : Kind) (p m n : ℕ) (x y : ℤ) → calendar_number kind net p ≡ Some x → FollowsNumbers (upper net p) (Some y) m n → is_lt (place_cmp (y, 1) (event_key (record { number = x; point = p; kind = kind }))) ≡ false
      → least_after kind m ≤ n
  by_kind Upper p m n x y is follows late =
      let both : FollowsNumbers (Some x) (Some y) m n = subst (λ (u : Option ℤ). FollowsNumbers u (Some y) m n) is follows in
      elim (not_first x y 0 1 late) [
        | inl less ↦ let lt = both.0 less in omega (arith, lt)
        | inr same ↦ both.1 same.0
      ]
  by_kind Lower p m n x y is follows late = omega arith
  by_kind Past p m n x y is follows late =
      let both : FollowsNumbers (Some x) (Some y) m n = subst (λ (u : Option ℤ). FollowsNumbers u (Some y) m n) is follows in
      elim (not_first x y 2 1 late) [
        | inl less ↦ let lt = both.0 less in omega (arith, lt)
        | inr same ↦ absurd (let e = same.1 in cc)
      ]

  keeps_pairs : KeepsEvents es t → (p q : ℕ) → p < points net → q < points net → KeepsCalendar net t p q
  keeps_pairs kept p q lp lq = by_numbers (upper net p) (lower net q) p q lp lq refl refl kept

  keeps_events : ((p q : ℕ) → p < points net → q < points net → KeepsCalendar net t p q) → KeepsEvents es t
  keeps_events all j lj is_lower i less =
      let a = event_at es i in
      let b = event_at es j in
      let li : i < length es = omega arith in
      let ra = All-get_or (IsEvent net) es i none li h.complete.right in
      let rb = All-get_or (IsEvent net) es j none lj h.complete.right in
      let number : lower net b.point ≡ Some b.number = subst (λ (kind : Kind). calendar_number kind net b.point ≡ Some b.number) is_lower rb.1 in
      let late : is_lt (place_cmp (b.number, 1) (event_key a)) ≡ false = subst (λ (kind : Kind). is_lt (place_cmp (b.number, turn_of kind) (event_key a)) ≡ false) is_lower (in_order es i j h.in_order (omega arith) lj) in
      let follows : FollowsNumbers (upper net a.point) (Some b.number) (t a.point) (t b.point) =
      subst (λ (l : Option ℤ). FollowsNumbers (upper net a.point) l (t a.point) (t b.point)) number (all a.point b.point ra.0 rb.0) in
      by_kind a.kind a.point (t a.point) (t b.point) a.number b.number ra.1 follows late

  -- what one pass over the events says of all pairs
  pub calendar_kept : KeepsEvents es t ↔ ((p q : ℕ) → p < points net → q < points net → KeepsCalendar net t p q)
  calendar_kept = (keeps_pairs, keeps_events)
