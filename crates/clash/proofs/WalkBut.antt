-- The other links hold where all orders of a marked walk but those of one link are true.
use Rattle.std.proofs.Common.{◌≡◌, ◌≢◌, ℕ, ◌<◌, List, length, get_or, Some, refl, subst}
use Rattle.std.specs.List.{Contains}
use Rattle.std.proofs.lemmas.List.Elements.{All-contains, All-from_get_or, Contains-get_or}
use Rattle.net_core.specs.Clashes.{Others}
use Rattle.net_core.specs.Fits.{FitsWith, KeepsLink}
use Rattle.net_core.specs.Nets.{PlainNet, points}
use Rattle.net_core.specs.Relations.{Timeline}
use Rattle.net_core.specs.Steps.{link_of}
use Rattle.net_core.specs.declared.atom.Atom.{Atom}
use Rattle.net_core.specs.declared.step.Step.{Step}
use Rattle.net_core.specs.declared.step.Step.TheVariants.{Link, Span, Calendar}
use Rattle.net_core.specs.Walks.{Kept}
use Rattle.net_core.proofs.StepLaws.{step_kept}
use Rattle.clash.specs.Minimal.{IsMarkedWalk}
use Rattle.net_orders.specs.Milestones.{AreWithMilestones, HasMilestones}
use Rattle.net_orders.specs.Orders.{FitsBut, HoldsBut}
use Rattle.clash.specs.declared.closed_walk.ClosedWalk.{ClosedWalk}
use Rattle.net_orders.proofs.SamePoints.{true_but_same}
use Rattle.net_orders.proofs.StepsBut.{no_step}

module _ (net : PlainNet) (closed : ClosedWalk) (fixed : List Atom) (omitted : ℕ) (is : IsMarkedWalk net closed) (are : AreWithMilestones net fixed) where
  -- what a step of the walk is over holds where the other links do
  held : (t : Timeline) (step : Step) → FitsWith net (Others (Kept closed.over.items) omitted) t → Contains closed.walk step → HoldsBut net omitted step t
  held t (Link k i) fits has = λ other within. fits.links k within ((is.over k within).1 (Link k i, has, refl), other)
  held t (Span i) fits has = λ a e. step_kept net (Others (Kept closed.over.items) omitted) t (Span i) a fits (e, tt)
  held t (Calendar p q) fits has = λ a e. step_kept net (Others (Kept closed.over.items) omitted) t (Calendar p q) a fits (e, tt)

  -- a link that a step goes over holds where what the step is over does
  link_held : (t : Timeline) (k : ℕ) (step : Step) → link_of step ≡ Some k → k ≢ omitted → k < length net.links → HoldsBut net omitted step t → KeepsLink net t k
  link_held t k (Link j i) e other within holds =
      let same : j ≡ k = cc in
      subst (KeepsLink net t) same (subst (λ (n : ℕ). n ≢ omitted → n < length net.links → KeepsLink net t j) same holds other within)
  link_held t k (Span i) e other within holds = absurd cc
  link_held t k (Calendar p q) e other within holds = absurd cc

  -- where the other links hold, milestones can be added so that all orders are true but those of one link
  pub fits_placed : (t : Timeline) → FitsWith net (Others (Kept closed.over.items) omitted) t → (u : Timeline) × HasMilestones (points net) t u × FitsBut closed.orders fixed omitted u
  fits_placed t fits =
      let at = are.placed t (fits.order, fits.calendar) in
      let true_there = (is.orders.exact omitted t).1 (All-from_get_or (λ (step : Step). HoldsBut net omitted step t) closed.walk no_step (λ i lt.
      held t (get_or closed.walk i no_step) fits (Contains-get_or closed.walk i no_step lt))) in
      (at.0, at.1, record { held = true_but_same (points net) omitted closed.orders t at.0 at.1.same is.orders.in_range true_there; kept = at.2 })

  -- and where these are true, the other links hold
  pub fits_kept : (t : Timeline) → FitsBut closed.orders fixed omitted t → FitsWith net (Others (Kept closed.over.items) omitted) t
  fits_kept t all =
      let both = are.kept t all.kept in
      record {
        order = both.0;
        links = λ k within chosen.
            let over = (is.over k within).0 chosen.0 in
            link_held t k over.0 over.2 chosen.1 within (All-contains (λ (step : Step). HoldsBut net omitted step t) closed.walk over.0 ((is.orders.exact omitted t).0 all.held) over.1);
        calendar = both.1;
      }
