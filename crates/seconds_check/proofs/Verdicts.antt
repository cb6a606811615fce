-- Evidence has one verdict.
use Rattle.std.proofs.Common.{◌≡◌, ℕ, ◌+◌, ◌≤◌, ℤ, List, length, take, Option, Some, None, refl, ap, inl, inr, arith}
use Rattle.std.proofs.lemmas.Bool.{cases_lt}
use Rattle.std.proofs.lemmas.Int.{ints}
use Rattle.net_core.specs.Nets.{intervals, link_at, points}
use Rattle.net_core.proofs.FirstLaws.{one_first}
use Rattle.seconds_core.specs.declared.line.Line.{Line}
use Rattle.seconds_core.specs.Cycles.{IsNegative}
use Rattle.seconds_core.specs.Evidence.{Placed, Cycle}
use Rattle.seconds_core.specs.Placed.{IsPlaced, KeepsBounds, KeepsLimits, KeepsLinkInSeconds, StartsFirstInSeconds}
use Rattle.seconds_core.specs.Timed.{PlainTimed}
use Rattle.seconds_check.specs.declared.refusal.SecondsReason.{SecondsReason}
use Rattle.seconds_check.specs.declared.refusal.SecondsReason.TheVariants.{Size, Order, Link, Bound, Length, Step, End, Sum}
use Rattle.seconds_check.specs.Refusals.{FirstBroken, FirstOutside, FirstUnorderedSeconds, FirstWrongLength, LinesGoOn, HasSecondsSize, IsMisplaced, IsNoCycle, OneSecondsVerdict}
use Rattle.seconds_check.proofs.Joined.{ends_alike, goes_less, goes_whole}

module _ (timed : PlainTimed) (seconds : List ℤ) where
  -- a placing is not misplaced
  placed_not_both : (reason : SecondsReason) → IsPlaced timed seconds → IsMisplaced timed seconds reason → ⊥
  placed_not_both (Size size) placed m = omega (arith, placed.size, m.0, m.1)
  placed_not_both (Order i) placed m = m.1.1 (placed.order i m.1.0)
  placed_not_both (Link k) placed m = m.2.1 (placed.links k m.2.0)
  placed_not_both (Bound p) placed m = m.3.1 (placed.bounds p m.3.0)
  placed_not_both (Length i) placed m = m.4.1 (placed.limits i m.4.0)
  placed_not_both (Step k) placed m = m
  placed_not_both End placed m = m
  placed_not_both Sum placed m = m

  -- a reason of the size is none of seconds of the right size
  sized : (size : ℕ) → IsMisplaced timed seconds (Size size) → HasSecondsSize timed seconds → ⊥
  sized size m h = omega (arith, m.0, m.1, h)

  -- what is found first of intervals, links and points is found once
  one_unordered : (o p : Option ℕ) → FirstUnorderedSeconds timed seconds o → FirstUnorderedSeconds timed seconds p → o ≡ p
  one_unordered o p h k = one_first (intervals timed.net) (StartsFirstInSeconds seconds) o p h k

  one_broken : (o p : Option ℕ) → FirstBroken timed seconds o → FirstBroken timed seconds p → o ≡ p
  one_broken o p h k = one_first (length timed.net.links) (λ n. KeepsLinkInSeconds seconds (link_at timed.net n)) o p h k

  one_outside : (o p : Option ℕ) → FirstOutside timed seconds o → FirstOutside timed seconds p → o ≡ p
  one_outside o p h k = one_first (points timed.net) (KeepsBounds timed seconds) o p h k

  one_wrong_length : (o p : Option ℕ) → FirstWrongLength timed seconds o → FirstWrongLength timed seconds p → o ≡ p
  one_wrong_length o p h k = one_first (intervals timed.net) (KeepsLimits timed seconds) o p h k

  -- seconds are misplaced for one reason: of two, the parts that both speak of are the same
  one_misplaced : (r s : SecondsReason) → IsMisplaced timed seconds r → IsMisplaced timed seconds s → r ≡ s
  one_misplaced (Size a) (Size b) h k = ap (λ (n : ℕ). Size n) (omega (arith, h.0, k.0))
  one_misplaced (Size a) (Order i) h k = absurd (sized a h k.0)
  one_misplaced (Size a) (Link i) h k = absurd (sized a h k.0)
  one_misplaced (Size a) (Bound p) h k = absurd (sized a h k.0)
  one_misplaced (Size a) (Length i) h k = absurd (sized a h k.0)
  one_misplaced (Order i) (Size b) h k = absurd (sized b k h.0)
  one_misplaced (Link i) (Size b) h k = absurd (sized b k h.0)
  one_misplaced (Bound p) (Size b) h k = absurd (sized b k h.0)
  one_misplaced (Length i) (Size b) h k = absurd (sized b k h.0)
  one_misplaced (Order i) (Order j) h k = cc (one_unordered (Some i) (Some j) h.1 k.1)
  one_misplaced (Order i) (Link j) h k = cc (one_unordered (Some i) None h.1 k.1)
  one_misplaced (Order i) (Bound p) h k = cc (one_unordered (Some i) None h.1 k.1)
  one_misplaced (Order i) (Length j) h k = cc (one_unordered (Some i) None h.1 k.1)
  one_misplaced (Link i) (Order j) h k = cc (one_unordered None (Some j) h.1 k.1)
  one_misplaced (Bound p) (Order j) h k = cc (one_unordered None (Some j) h.1 k.1)
  one_misplaced (Length i) (Order j) h k = cc (one_unordered None (Some j) h.1 k.1)
  one_misplaced (Link i) (Link j) h k = cc (one_broken (Some i) (Some j) h.2 k.2)
  one_misplaced (Link i) (Bound p) h k = cc (one_broken (Some i) None h.2 k.2)
  one_misplaced (Link i) (Length j) h k = cc (one_broken (Some i) None h.2 k.2)
  one_misplaced (Bound p) (Link j) h k = cc (one_broken None (Some j) h.2 k.2)
  one_misplaced (Length i) (Link j) h k = cc (one_broken None (Some j) h.2 k.2)
  one_misplaced (Bound p) (Bound q) h k = cc (one_outside (Some p) (Some q) h.3 k.3)
  one_misplaced (Bound p) (Length j) h k = cc (one_outside (Some p) None h.3 k.3)
  one_misplaced (Length i) (Bound q) h k = cc (one_outside None (Some q) h.3 k.3)
  one_misplaced (Length i) (Length j) h k = cc (one_wrong_length (Some i) (Some j) h.4 k.4)
  one_misplaced (Step n) s h k = absurd h
  one_misplaced End s h k = absurd h
  one_misplaced Sum s h k = absurd h
  one_misplaced r (Step n) h k = absurd k
  one_misplaced r End h k = absurd k
  one_misplaced r Sum h k = absurd k

module _ (timed : PlainTimed) (lines : List Line) where
  -- a negative cycle is refused for no reason
  negative_not_both : (reason : SecondsReason) → IsNegative timed lines → IsNoCycle timed lines reason → ⊥
  negative_not_both (Step k) closed h = h.2 (goes_whole timed lines closed.0 closed.0 (k + 1) closed.1)
  negative_not_both End closed h = h.3 (ends_alike timed lines closed.0 h.0 h.1 closed.1 h.2)
  negative_not_both Sum closed h = omega (arith, ints, closed.2, h.2)
  negative_not_both (Size n) closed h = h
  negative_not_both (Order n) closed h = h
  negative_not_both (Link n) closed h = h
  negative_not_both (Bound n) closed h = h
  negative_not_both (Length n) closed h = h

  -- the first line that does not go on is one
  one_stop : (j k : ℕ) → LinesGoOn timed (take k lines) → (LinesGoOn timed (take (j + 1) lines) → ⊥) → k ≤ j
  one_stop j k goes stops = elim (cases_lt j k) [
    | inl less ↦ absurd (stops (goes_less timed lines (j + 1) k (omega arith) goes))
    | inr le ↦ le
  ]

  -- lines are no negative cycle for one reason
  one_no_cycle : (r s : SecondsReason) → IsNoCycle timed lines r → IsNoCycle timed lines s → r ≡ s
  one_no_cycle (Step j) (Step k) h g =
      let le = one_stop j k g.1 h.2 in
      let ge = one_stop k j h.1 g.2 in
      ap (λ (n : ℕ). Step n) (omega arith)
  one_no_cycle (Step j) End h g = absurd (h.2 (goes_whole timed lines g.0 g.1 (j + 1) g.2))
  one_no_cycle (Step j) Sum h g = absurd (h.2 (goes_whole timed lines g.0 g.0 (j + 1) g.1))
  one_no_cycle End (Step k) h g = absurd (g.2 (goes_whole timed lines h.0 h.1 (k + 1) h.2))
  one_no_cycle Sum (Step k) h g = absurd (g.2 (goes_whole timed lines h.0 h.0 (k + 1) h.1))
  one_no_cycle End End h g = refl
  one_no_cycle End Sum h g = absurd (h.3 (ends_alike timed lines g.0 h.0 h.1 g.1 h.2))
  one_no_cycle Sum End h g = absurd (g.3 (ends_alike timed lines h.0 g.0 g.1 h.1 g.2))
  one_no_cycle Sum Sum h g = refl
  one_no_cycle (Size n) s h g = absurd h
  one_no_cycle (Order n) s h g = absurd h
  one_no_cycle (Link n) s h g = absurd h
  one_no_cycle (Bound n) s h g = absurd h
  one_no_cycle (Length n) s h g = absurd h
  one_no_cycle r (Size n) h g = absurd g
  one_no_cycle r (Order n) h g = absurd g
  one_no_cycle r (Link n) h g = absurd g
  one_no_cycle r (Bound n) h g = absurd g
  one_no_cycle r (Length n) h g = absurd g

pub one_verdict : OneSecondsVerdict
one_verdict timed (Placed seconds) = record { not_both = placed_not_both timed seconds; one_refusal = one_misplaced timed seconds }
one_verdict timed (Cycle lines) = record { not_both = negative_not_both timed lines; one_refusal = one_no_cycle timed lines }
