-- What the order of a step holds by, but for one link.
use Rattle.std.proofs.Common.{◌≡◌, ◌≢◌, ◌↔◌, ℕ, ◌<◌, length, Some, None, sym, subst}
use Rattle.net_core.specs.Atoms.{Satisfies}
use Rattle.net_core.specs.Fits.{KeepsLink}
use Rattle.net_core.specs.Nets.{PlainNet}
use Rattle.net_core.specs.Relations.{Timeline}
use Rattle.net_core.specs.Steps.{atom_of, link_of}
use Rattle.net_core.specs.declared.atom.Atom.{Atom}
use Rattle.net_core.specs.declared.step.Step.{Step}
use Rattle.net_core.specs.declared.step.Step.TheVariants.{Link, Span, Calendar}
use Rattle.net_orders.specs.Orders.{HoldsBut}

-- what is read past the end of a list of steps
abbrev pub no_step : Step
no_step = Link 0 0

-- what a step over a link is over holds where the link does, unless it is left out
pub over_link : (net : PlainNet) (omitted k : ℕ) (step : Step) → Some k ≡ link_of step → k < length net.links → (t : Timeline) → (k ≢ omitted → KeepsLink net t k) ↔ HoldsBut net omitted step t
over_link net omitted k (Link j i) e within t =
    let same : k ≡ j = cc in
    subst (λ (n : ℕ). (k ≢ omitted → KeepsLink net t k) ↔ HoldsBut net omitted (Link n i) t) same (λ holds. λ other lt. holds other, λ holds. λ other. holds other within)
over_link net omitted k (Span i) e within t = absurd cc
over_link net omitted k (Calendar p q) e within t = absurd cc

-- what another step is over holds where its order is true
pub over_order : (net : PlainNet) (omitted : ℕ) (step : Step) (a : Atom) → None ≡ link_of step → Some a ≡ atom_of net step → (t : Timeline) → Satisfies t a ↔ HoldsBut net omitted step t
over_order net omitted (Link j i) a none is t = absurd cc
over_order net omitted (Span i) a none is t = (λ holds. λ b e. subst (Satisfies t) (let same : a ≡ b = cc in same) holds, λ holds. holds a (sym is))
over_order net omitted (Calendar p q) a none is t = (λ holds. λ b e. subst (Satisfies t) (let same : a ≡ b = cc in same) holds, λ holds. holds a (sym is))
