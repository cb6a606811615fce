-- Points, two for each interval.
use Rattle.std.proofs.Common.{◌≡◌, ℕ, ℤ, ◌+◌, ◌*◌, ◌/◌, ◌%◌, ◌<◌, ◌↔◌, ◌&&◌, IsTrue, Option, Bool, true, false, arith, subst, sym, refl}
use Rattle.net_core.specs.Bounds.{lower_of}
use Rattle.net_core.specs.Fits.{FollowsNumbers}
use Rattle.net_core.specs.Rows.{KeepsBoth, KeepsRow}
use Rattle.net_core.specs.Nets.{PlainNet, bounds_at, lower}
use Rattle.net_core.specs.Relations.{Timeline, ends_of}
use Rattle.net_core.specs.declared.bounds.Bounds.{Bounds}
use Rattle.net_core.specs.declared.net.Ends.{Ends}

-- the lower number of the start of an interval
lower_start : (net : PlainNet) (i : ℕ) → lower net (2 * i) ≡ lower_of (bounds_at net i) false
lower_start net i =
    let half : 2 * i / 2 ≡ i = omega arith in
    let even : 2 * i % 2 ≡ 0 = omega arith in
    rw (half, even) refl

-- the lower number of the end of an interval
lower_end : (net : PlainNet) (i : ℕ) → lower net (2 * i + 1) ≡ lower_of (bounds_at net i) true
lower_end net i =
    let half : (2 * i + 1) / 2 ≡ i = omega arith in
    let odd : (2 * i + 1) % 2 ≡ 1 = omega arith in
    rw (half, odd) refl

-- a point is one of those before an interval, its start or its end
cases_of_points : (P : ℕ → Type 0) (i : ℕ) → ((j : ℕ) → j < 2 * i → P j) → P (2 * i) → P (2 * i + 1) → (j : ℕ) → j < 2 * (i + 1) → P j
cases_of_points P i before start finish j h = grind arith

-- a row is kept up to the next interval where it is kept up to this one and by its two points
next_row : (net : PlainNet) (t : Timeline) (u : Option ℤ) (m i : ℕ)
    → (KeepsRow net t u m (2 * i) × KeepsBoth (bounds_at net i) (ends_of t i) u m) ↔ KeepsRow net t u m (2 * (i + 1))
next_row net t u m i = (
  λ h. cases_of_points (λ j. FollowsNumbers u (lower net j) m (t j)) i h.0
      (subst (λ l. FollowsNumbers u l m (t (2 * i))) (sym (lower_start net i)) h.1.0)
      (subst (λ l. FollowsNumbers u l m (t (2 * i + 1))) (sym (lower_end net i)) h.1.1),
  λ k. (
    λ j less. k j (omega (arith, less)),
    (
      subst (λ l. FollowsNumbers u l m (t (2 * i))) (lower_start net i) (k (2 * i) (omega arith)),
      subst (λ l. FollowsNumbers u l m (t (2 * i + 1))) (lower_end net i) (k (2 * i + 1) (omega arith)),
    ),
  ),
)

-- the tests of the two parts together are the test of a row up to the next interval
pub row_goes_on : (net : PlainNet) (t : Timeline) (u : Option ℤ) (m i : ℕ) (bounds : Bounds) (ends : Ends) (before both : Bool)
    → bounds ≡ bounds_at net i → ends ≡ ends_of t i
    → (IsTrue before ↔ KeepsRow net t u m (2 * i)) → (IsTrue both ↔ KeepsBoth bounds ends u m)
    → (IsTrue (before && both) ↔ KeepsRow net t u m (2 * (i + 1)))
row_goes_on net t u m i bounds ends true true b e h k =
    let next = next_row net t u m i in
    (λ tr. next.0 (h.0 tr, subst (λ x. KeepsBoth x (ends_of t i) u m) b (subst (λ x. KeepsBoth bounds x u m) e (k.0 tr))), λ all. refl)
row_goes_on net t u m i bounds ends false both b e h k =
    (λ f. absurd cc, λ all. h.1 ((next_row net t u m i).1 all).0)
row_goes_on net t u m i bounds ends true false b e h k =
    (λ f. absurd cc, λ all. k.1 (subst (λ x. KeepsBoth x ends u m) (sym b) (subst (λ x. KeepsBoth (bounds_at net i) x u m) (sym e) ((next_row net t u m i).1 all).1)))
