-- Serves the code: orders of points, of links and without any, and what they say where one link is left out.
use Rattle.std.specs.Prelude.{◌≡◌, ◌≢◌, ◌↔◌, ℕ, ◌<◌, ◌==◌, Bool, false, List, length, Option, Some, None}
use Rattle.std.specs.List.{All}
use Rattle.net_core.specs.Atoms.{IsInRange, Satisfies}
use Rattle.net_core.specs.Fits.{KeepsLink}
use Rattle.net_core.specs.Nets.{PlainNet, points}
use Rattle.net_core.specs.Relations.{Timeline}
use Rattle.net_core.specs.Steps.{atom_of}
use Rattle.net_core.specs.declared.atom.Atom.{Atom}
use Rattle.net_core.specs.declared.step.Step.{Step}
use Rattle.net_core.specs.declared.step.Step.TheVariants.{Link}
use Rattle.order_closure.specs.Tables.{AreInRange, SatisfiesAll}
use Rattle.net_orders.specs.Steps.{KeepsDates, KeepsSpans}
use Rattle.net_orders.specs.declared.orders.Order.{Order}

-- what a step is over holds: the whole link, unless it is the one that is left out, or the order of the step
abbrev pub HoldsBut : PlainNet → ℕ → Step → Timeline → Type 0
HoldsBut net omitted (Link k i) t = k ≢ omitted → k < length net.links → KeepsLink net t k
HoldsBut net omitted step t = (a : Atom) → atom_of net step ≡ Some a → Satisfies t a

abbrev pub AllHoldBut : PlainNet → ℕ → List Step → Timeline → Type 0
AllHoldBut net omitted steps t = All (λ step. HoldsBut net omitted step t) steps

-- whether an order is of a link
abbrev pub is_this_link : ℕ → Option ℕ → Bool
is_this_link link (Some own) = own == link
is_this_link link None = false

abbrev pub is_of : ℕ → Order → Bool
is_of link order = is_this_link link order.link

-- an order is true, unless it is of the link that is left out
abbrev pub IsTrueBut : ℕ → Order → Timeline → Type 0
IsTrueBut omitted order t = is_of omitted order ≡ false → Satisfies t order.atom

abbrev pub AllAreTrueBut : ℕ → List Order → Timeline → Type 0
AllAreTrueBut omitted orders t = All (λ order. IsTrueBut omitted order t) orders

-- the points of the orders are below n
abbrev pub AreOrdersBelow : ℕ → List Order → Type 0
AreOrdersBelow n orders = All (λ (order : Order). IsInRange n order.atom) orders

-- orders of points below n were put last; whatever link is left out, they say this
pub record AppendsOrders (n : ℕ) (Says : ℕ → Timeline → Type 0) (old new : List Order) : Type 0 where
  pub in_range : AreOrdersBelow n old → AreOrdersBelow n new
  pub exact : (omitted : ℕ) (t : Timeline) → AllAreTrueBut omitted new t ↔ (AllAreTrueBut omitted old t × Says omitted t)

-- whatever link is left out, the orders say what the steps are over
pub record AreStepOrders (net : PlainNet) (steps : List Step) (orders : List Order) : Type 0 where
  pub in_range : AreOrdersBelow (points net) orders
  pub exact : (omitted : ℕ) (t : Timeline) → AllAreTrueBut omitted orders t ↔ AllHoldBut net omitted steps t

-- the orders say what holds without any link: each interval starts before it ends, and all points are in the order of the calendar
pub record AreFixed (net : PlainNet) (fixed : List Atom) : Type 0 where
  pub in_range : AreInRange (points net) fixed
  pub exact : (t : Timeline) → SatisfiesAll fixed t ↔ (KeepsSpans net t × KeepsDates net t)

-- all orders are true, but for those of one link
pub record FitsBut (orders : List Order) (fixed : List Atom) (omitted : ℕ) (t : Timeline) : Type 0 where
  pub held : AllAreTrueBut omitted orders t
  pub kept : SatisfiesAll fixed t
