-- Evidence is confirmed, or refused.
use Rattle.std.proofs.Common.{◌≡◌, ◌⊎◌, inl, inr, true, ℕ, zero, suc, ◌+◌, ◌*◌, ◌/◌, ◌%◌, ◌<◌, ℤ, pos, List, length, take, refl, sym, subst, add-one, arith}
use Rattle.std.proofs.Math.Seq.{take-length}
use Rattle.std.proofs.lemmas.Int.{by_lt_z}
use native.Mathlib.Decide.{ℕ_discrete}
use Rattle.net_core.specs.Nets.{intervals, link_at, points}
use Rattle.net_core.proofs.FirstLaws.{first_or_none}
use Rattle.seconds_core.specs.declared.line.Line.{Line}
use Rattle.seconds_core.specs.Cycles.{LeadFromTo, IsNegative, sum_of}
use Rattle.seconds_core.specs.Evidence.{Placed, Cycle}
use Rattle.seconds_core.specs.Placed.{IsPlaced, KeepsBounds, KeepsLimits, KeepsLinkInSeconds, StartsFirstInSeconds, lasts, second_at}
use Rattle.seconds_core.specs.Timed.{PlainTimed, limits_at, lower_second, upper_second}
use Rattle.seconds_check.specs.declared.refusal.SecondsReason.{SecondsReason}
use Rattle.seconds_check.specs.declared.refusal.SecondsReason.TheVariants.{Size, Order, Link, Bound, Length, Step, End, Sum}
use Rattle.seconds_check.specs.Refusals.{ConfirmedOrRefused, LinesGoOn, HasSecondsSize, IsMisplaced, IsNoCycle}
use Rattle.seconds_check.proofs.Deciding.{between, go_on, in_order, keeps_link}

-- something holds, or it does not for a reason
abbrev OrReason : Type 0 → (SecondsReason → Type 0) → Type 0
OrReason Good Bad = Good ⊎ ((reason : SecondsReason) × Bad reason)

module _ (timed : PlainTimed) where
  -- seconds, where there are two for each interval
  sized : (seconds : List ℤ) → HasSecondsSize timed seconds → OrReason (IsPlaced timed seconds) (IsMisplaced timed seconds)
  sized seconds size = elim (first_or_none (intervals timed.net) (StartsFirstInSeconds seconds) (λ i. in_order true (second_at seconds (2 * i)) (second_at seconds (2 * i + 1)))) [
    | inr first ↦ inr (Order first.0, (size, first.1))
    | inl order ↦ elim (first_or_none (length timed.net.links) (λ k. KeepsLinkInSeconds seconds (link_at timed.net k)) (λ k. keeps_link seconds (link_at timed.net k))) [
      | inr first ↦ inr (Link first.0, (size, order, first.1))
      | inl links ↦ elim (first_or_none (points timed.net) (KeepsBounds timed seconds) (λ p. between (lower_second timed p) (upper_second timed p) (second_at seconds p))) [
        | inr first ↦ inr (Bound first.0, (size, order, links, first.1))
        | inl bounds ↦ elim (first_or_none (intervals timed.net) (KeepsLimits timed seconds) (λ i. between (limits_at timed i).least (limits_at timed i).most (lasts seconds i))) [
          | inr first ↦ inr (Length first.0, (size, order, links, bounds, first.1))
          | inl limits ↦ inl (record { size = size; order = order; links = links; bounds = bounds; limits = limits })
        ]
      ]
    ]
  ]

  -- the number of pairs of seconds
  placed_or_not : (seconds : List ℤ) → length seconds % 2 ≡ 0 → OrReason (IsPlaced timed seconds) (IsMisplaced timed seconds)
  placed_or_not seconds even = elim (ℕ_discrete (length seconds / 2) (intervals timed.net)) [
    | yes same ↦ sized seconds (omega (arith, even, same))
    | no other ↦ inr (Size (length seconds / 2), (omega (arith, even), other))
  ]

  -- lines go on to their end, or one is the first that does not
  on_or_stop : (lines : List Line) → LinesGoOn timed lines ⊎ ((k : ℕ) × IsNoCycle timed lines (Step k))
  on_or_stop lines = elim (first_or_none (suc (length lines)) (λ k. LinesGoOn timed (take k lines)) (λ k. go_on timed (take k lines))) [
    | inl each ↦ inl (subst (LinesGoOn timed) (take-length lines) (each (length lines) (omega arith)))
    | inr first ↦ inr (stop first.0 first.1.0 first.1.1 first.1.2)
  ]
    where
      stop : (k : ℕ) → k < suc (length lines) → (LinesGoOn timed (take k lines) → ⊥) → ((j : ℕ) → j < k → LinesGoOn timed (take j lines)) → (k : ℕ) × IsNoCycle timed lines (Step k)
      stop zero less never before = absurd (never (0, (0, refl)))
      stop (suc k) less never before = (k, (omega (arith, less), before k (omega arith), λ on. never (subst (λ (n : ℕ). LinesGoOn timed (take n lines)) (add-one k) on)))

  -- lines that lead back
  by_sum : (lines : List Line) (x : ℕ) → LeadFromTo timed lines x x → OrReason (IsNegative timed lines) (IsNoCycle timed lines)
  by_sum lines x joined = elim (in_order true (sum_of timed lines) (pos 0)) [
    | yes below ↦ inl (x, joined, below)
    | no not_below ↦ inr (Sum, (x, joined, by_lt_z (sum_of timed lines) (pos 0) (λ below. absurd (not_below below)) (λ le. le)))
  ]

  negative_or_not : (lines : List Line) → OrReason (IsNegative timed lines) (IsNoCycle timed lines)
  negative_or_not lines = elim (on_or_stop lines) [
    | inr stop ↦ inr (Step stop.0, stop.1)
    | inl on ↦ elim (ℕ_discrete on.0 on.1.0) [
      | no other ↦ inr (End, (on.0, on.1.0, on.1.1, other))
      | yes same ↦ by_sum lines on.0 (subst (λ (y : ℕ). LeadFromTo timed lines on.0 y) (sym same) on.1.1)
    ]
  ]

pub confirmed_or_refused : ConfirmedOrRefused
confirmed_or_refused timed (Placed seconds) even = placed_or_not timed seconds even
confirmed_or_refused timed (Cycle lines) pairs = negative_or_not timed lines
