-- A set of seconds has one extent, and a time has one answer.
use Rattle.std.proofs.Common.{◌≡◌, ℕ, Some, None, ℤ, pos, ◌-ℤ◌, arith, refl, sym, ◌∙◌}
use Rattle.jiff_core.proofs.SignedLemmas.{signed_arith}
use Rattle.net_core.specs.declared.bounds.Bounds.{Bounds}
use Rattle.net_core.specs.declared.bounds.Bounds.TheVariants.{Exact, Within, Free}
use Rattle.timex_value.specs.declared.value.Value.TheVariants as ValueOf
use Rattle.timex_value.specs.Values.{year_of, shape_of}
use Rattle.timex_dates.specs.Seconds.{Extent}
use Rattle.timex_dates.specs.KnownParts.{Belongs}
use Rattle.timex_dates.specs.Answers.{Precision, exact, within, unspecified, precision_of, HasBounds, OneExtent, OneBounds}

-- each of two extents has the ends of the other
extent_once : (P : ℕ → Type 0) (lo hi low high : ℤ) → Extent P lo hi → Extent P low high → (lo ≡ low) × (hi ≡ high)
unfolding Extent
extent_once P lo hi low high h k =
    let a = h.1 low k.0 in
    let b = k.1 lo h.0 in
    let c = k.3 (hi -ℤ pos 1) h.2 in
    let d = h.3 (high -ℤ pos 1) k.2 in
    (omega (arith, signed_arith), omega (arith, signed_arith))

pub one_extent : OneExtent
one_extent year shape lo hi low high h k = extent_once (Belongs year shape) lo hi low high h k

pub bounds_once : (precision : Precision) (P : ℕ → Type 0) (a b : Bounds) → HasBounds precision P a → HasBounds precision P b → a ≡ b
bounds_once exact P (Exact lo hi) (Exact low high) h k = let e = extent_once P lo hi low high h k in rw (e.0, e.1) refl
bounds_once within P (Within lo hi) (Within low high) h k = let e = extent_once P lo hi low high h k in rw (e.0, e.1) refl
bounds_once unspecified P a b h k = h ∙ sym k
bounds_once exact P (Exact lo hi) (Within low high) h k = absurd k
bounds_once exact P (Exact lo hi) Free h k = absurd k
bounds_once exact P (Within lo hi) b h k = absurd h
bounds_once exact P Free b h k = absurd h
bounds_once within P (Within lo hi) (Exact low high) h k = absurd k
bounds_once within P (Within lo hi) Free h k = absurd k
bounds_once within P (Exact lo hi) b h k = absurd h
bounds_once within P Free b h k = absurd h

pub one_bounds : OneBounds
one_bounds kind m (Some (ValueOf.Calendar c)) a b h k = bounds_once (precision_of kind m (year_of c) (shape_of c)) (Belongs (year_of c) (shape_of c)) a b h k
one_bounds kind m (Some (ValueOf.Duration l)) a b h k = h ∙ sym k
one_bounds kind m (Some ValueOf.Other) a b h k = h ∙ sym k
one_bounds kind m None a b h k = h ∙ sym k
