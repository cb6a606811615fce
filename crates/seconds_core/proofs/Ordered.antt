-- Seconds that a timeline counts are in the order of its numbers.
use Rattle.std.proofs.Common.{◌≡◌, ◌↔◌, ℕ, zero, suc, ◌+◌, ◌*◌, ◌<◌, ◌≤◌, ℤ, pos, negsuc, nat_abs, ◌+ℤ◌, ◌-ℤ◌, ◌<ℤ◌, ◌≤ℤ◌, List, [], ◌∷◌, Option, Some, None, inl, inr, ◌⊎◌, arith}
use Rattle.std.specs.Prelude.{IfSome}
use Rattle.std.proofs.lemmas.Bool.{cases_lt}
use Rattle.std.proofs.lemmas.Int.{ints}
use Rattle.net_core.specs.Fits.{FollowsNumbers}
use Rattle.net_core.specs.Nets.{link_at}
use Rattle.net_core.specs.Relations.{Relates, Timeline}
use Rattle.net_core.specs.declared.rels.Rel.{Rel}
use Rattle.net_core.specs.declared.rels.Rel.TheVariants as rel
use Rattle.seconds_core.specs.Laws.{PlacedFits, SecondsAreCounted, SecondsSayTheRelation}
use Rattle.seconds_core.specs.Placed.{KeepsLinkInSeconds, second_at}
use Rattle.seconds_core.specs.Timed.{lower_second, upper_second}

-- seconds that are counted from one second on are before one another, the same, or no later, where the numbers are
module _ (first m n : ℤ) (i j : ℕ) (a : m ≡ first +ℤ pos i) (b : n ≡ first +ℤ pos j) where
  lt : (m <ℤ n) ↔ (i < j)
  lt = (λ h. omega (arith, ints, a, b, h), λ h. omega (arith, ints, a, b, h))

  le : (m ≤ℤ n) ↔ (i ≤ j)
  le = (λ h. omega (arith, ints, a, b, h), λ h. omega (arith, ints, a, b, h))

  eq : (m ≡ n) ↔ (i ≡ j)
  eq = (λ h. omega (arith, ints, a, b, h), λ h. omega (arith, ints, a, b, h))

two : {A B C D : Type 0} → A ↔ B → C ↔ D → (A × C) ↔ (B × D)
two p q = (λ h. (p.0 h.0, q.0 h.1), λ h. (p.1 h.0, q.1 h.1))

three : {A B C D E F : Type 0} → A ↔ B → C ↔ D → E ↔ F → (A × C × E) ↔ (B × D × F)
three p q r = (λ h. (p.0 h.0, q.0 h.1, r.0 h.2), λ h. (p.1 h.0, q.1 h.1, r.1 h.2))

pub seconds_say_the_relation : SecondsSayTheRelation
seconds_say_the_relation first seconds t link (s, e) (u, v) = by link.rel
  where
    by : (r : Rel) → KeepsLinkInSeconds seconds (record { a = link.a; rel = r; b = link.b }) ↔ Relates t link.a r link.b
    by rel.Before = lt _ _ _ _ _ e u
    by rel.After = lt _ _ _ _ _ v s
    by rel.Includes = two (lt _ _ _ _ _ s u) (lt _ _ _ _ _ v e)
    by rel.IsIncluded = two (lt _ _ _ _ _ u s) (lt _ _ _ _ _ e v)
    by rel.During = two (le _ _ _ _ _ u s) (le _ _ _ _ _ e v)
    by rel.DuringInv = two (le _ _ _ _ _ s u) (le _ _ _ _ _ v e)
    by rel.Simultaneous = two (eq _ _ _ _ _ s u) (eq _ _ _ _ _ e v)
    by rel.Identity = two (eq _ _ _ _ _ s u) (eq _ _ _ _ _ e v)
    by rel.Ibefore = eq _ _ _ _ _ e u
    by rel.Iafter = eq _ _ _ _ _ v s
    by rel.Begins = two (eq _ _ _ _ _ s u) (lt _ _ _ _ _ e v)
    by rel.BegunBy = two (eq _ _ _ _ _ u s) (lt _ _ _ _ _ v e)
    by rel.Ends = two (eq _ _ _ _ _ e v) (lt _ _ _ _ _ u s)
    by rel.EndedBy = two (eq _ _ _ _ _ v e) (lt _ _ _ _ _ s u)
    by rel.Overlaps = three (lt _ _ _ _ _ s u) (lt _ _ _ _ _ u e) (lt _ _ _ _ _ e v)
    by rel.OverlappedBy = three (lt _ _ _ _ _ u s) (lt _ _ _ _ _ s v) (lt _ _ _ _ _ v e)

-- one of two numbers is not above the other
sooner : (m n : ℤ) → (m ≤ℤ n) ⊎ (n ≤ℤ m)
sooner (pos m) (pos n) = elim (cases_lt m n) [ inl lt ↦ inl (omega (arith, ints, lt)) | inr ge ↦ inr (omega (arith, ints, ge)) ]
sooner (pos m) (negsuc n) = inr (omega (arith, ints))
sooner (negsuc m) (pos n) = inl (omega (arith, ints))
sooner (negsuc m) (negsuc n) = elim (cases_lt n m) [ inl lt ↦ inl (omega (arith, ints, lt)) | inr ge ↦ inr (omega (arith, ints, ge)) ]

-- a second that is not after the first of a list, nor after the others, is not after any
not_after_any : (first s : ℤ) (seconds : List ℤ) → first ≤ℤ s → ((p : ℕ) → first ≤ℤ second_at seconds p) → (p : ℕ) → first ≤ℤ second_at (s ∷ seconds) p
not_after_any first s seconds here rest zero = here
not_after_any first s seconds here rest (suc p) = rest p

-- some second is not after any of a list
earliest : (seconds : List ℤ) → (first : ℤ) × ((p : ℕ) → first ≤ℤ second_at seconds p)
earliest [] = (pos 0, λ p. omega (arith, ints))
earliest (s ∷ seconds) =
    let rest = earliest seconds in
    elim (sooner s rest.0) [
      | inl this ↦ (s, not_after_any s s seconds (omega (arith, ints)) (λ p. omega (arith, ints, this, rest.1 p)))
      | inr other ↦ (rest.0, not_after_any rest.0 s seconds other rest.1)
    ]

difference : (m n : ℤ) → m ≤ℤ n → (i : ℕ) × (n ≡ m +ℤ pos i)
difference m n le = (nat_abs (n -ℤ m), omega (arith, ints, le))

-- so a timeline counts the seconds from there on
counted : (seconds : List ℤ) → (first : ℤ) × (t : Timeline) × ((p : ℕ) → second_at seconds p ≡ first +ℤ pos (t p))
counted seconds =
    let (first, below) = earliest seconds in
    (first, λ p. (difference first (second_at seconds p) (below p)).0, λ p. (difference first (second_at seconds p) (below p)).1)

pub seconds_are_counted : SecondsAreCounted
seconds_are_counted seconds = let (first, t, counts) = counted seconds in (first, t, λ i. (counts (2 * i), counts (2 * i + 1)))

-- where seconds are in the calendar, a timeline that counts them is in its order
in_calendar : (u l : Option ℤ) (first m n : ℤ) (i j : ℕ) → m ≡ first +ℤ pos i → n ≡ first +ℤ pos j → IfSome u (λ x. m ≤ℤ x) → IfSome l (λ x. x ≤ℤ n) → FollowsNumbers u l i j
in_calendar (Some x) (Some y) first m n i j a b up low = (λ lt. omega (arith, ints, a, b, up, low, lt), λ same. omega (arith, ints, a, b, up, low, same))
in_calendar (Some x) None first m n i j a b up low = tt
in_calendar None l first m n i j a b up low = tt

pub placed_fits : PlacedFits
placed_fits timed (seconds, placed) =
    let (first, t, counts) = counted seconds in (
      t,
      record {
        order = λ i lt. omega (arith, ints, counts (2 * i), counts (2 * i + 1), placed.order i lt);
        links = λ k lt chosen. let l = link_at timed.net k in (seconds_say_the_relation first seconds t l (counts (2 * l.a), counts (2 * l.a + 1)) (counts (2 * l.b), counts (2 * l.b + 1))).0 (placed.links k lt);
        calendar = λ p q lp lq. in_calendar (upper_second timed p) (lower_second timed q) first (second_at seconds p) (second_at seconds q) (t p) (t q) (counts p) (counts q) (placed.bounds p lp).1 (placed.bounds q lq).0;
      },
    )
