-- Dates, and the orders of their points.
use Rattle.std.proofs.Common.{◌≡◌, ◌↔◌, ℕ, ℤ, List, Option, Some, None, refl, subst}
use Rattle.std.proofs.lemmas.List.Elements.{All-contains, All-weaker}
use Rattle.net_core.specs.Fits.{FollowsNumbers}
use Rattle.net_core.specs.Nets.{PlainNet, lower, points, upper}
use Rattle.net_core.specs.Relations.{Timeline}
use Rattle.walks.specs.Dates.{AreDates, IsDateOfPoint}
use Rattle.walks.specs.declared.dates.Date.{Date}
use Rattle.net_orders.specs.Dates.{AllFollow, FollowsDate, FollowsAll}
use Rattle.net_orders.specs.Steps.{KeepsDates}

-- two points are in the order of their numbers where each two such numbers say so
by_numbers : (u l : Option ℤ) (m n : ℕ) → ((x y : ℤ) → u ≡ Some x → l ≡ Some y → FollowsNumbers (Some x) (Some y) m n) → FollowsNumbers u l m n
by_numbers (Some x) (Some y) m n each = each x y refl refl
by_numbers (Some x) None m n each = tt
by_numbers None l m n each = tt

-- all dates are in order where all points are
pub dates_said : (net : PlainNet) (uppers lowers : List Date) → AreDates (upper net) (points net) uppers → AreDates (lower net) (points net) lowers
    → (t : Timeline) → AllFollow uppers lowers t ↔ KeepsDates net t
dates_said net uppers lowers up low t = (
  λ all. λ p q lp lq. by_numbers (upper net p) (lower net q) (t p) (t q) (λ x y is_x is_y.
      let first : Date = record { number = x; point = p } in
      let second : Date = record { number = y; point = q } in
      All-contains (λ (d : Date). FollowsDate first d t) lowers second
      (All-contains (λ (d : Date). FollowsAll lowers d t) uppers first all (up.whole p x lp is_x)) (low.whole q y lq is_y)),
  λ keeps. All-weaker (IsDateOfPoint (upper net) (points net)) (λ (d : Date). FollowsAll lowers d t) (λ first one.
      All-weaker (IsDateOfPoint (lower net) (points net)) (λ (d : Date). FollowsDate first d t) (λ second two.
      subst (λ (l : Option ℤ). FollowsNumbers (Some first.number) l (t first.point) (t second.point)) two.1
      (subst (λ (u : Option ℤ). FollowsNumbers u (lower net second.point) (t first.point) (t second.point)) one.1 (keeps first.point second.point one.0 two.0)))
      lowers low.right) uppers up.right,
)
