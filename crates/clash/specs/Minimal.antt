-- Minimal clashes, each with a walk and timelines that prove it.
use Rattle.std.specs.Prelude.{◌≡◌, ◌↔◌, ◌⊎◌, ℕ, ◌*◌, ◌<◌, ◌≤◌, List, length}
use Rattle.std.specs.List.{Contains}
use Rattle.std.specs.List.Sorted.{IsStrictlyIncreasing}
use Rattle.net_core.specs.Clashes.{Clashes, IsClosedOver, IsMinimalClash, Others}
use Rattle.net_core.specs.Entailment.{HasTimelineWith}
use Rattle.net_core.specs.Fits.{EveryLink, Fits}
use Rattle.net_core.specs.Least.{AreLeast, AreSpares}
use Rattle.net_core.specs.Nets.{PlainNet, points}
use Rattle.net_core.specs.Walks.{GoesOver, IsClosedWalk, Kept}
use Rattle.clash.specs.declared.minimal.Clash.{Clash}
use Rattle.net_core.specs.declared.step.Step.{Step}
use Rattle.net_orders.specs.Orders.{AreStepOrders}
use Rattle.clash.specs.declared.closed_walk.ClosedWalk.{ClosedWalk}

-- the links before link k, and those up to it
abbrev pub Before : ℕ → ℕ → Type 0
Before k j = j < k

abbrev pub UpTo : ℕ → ℕ → Type 0
UpTo k j = j ≤ k

-- some timeline fits with the links before link k, and none with these and link k
pub record IsFirstClash (net : PlainNet) (k : ℕ) : Type 0 where
  pub link : k < length net.links
  pub before : HasTimelineWith net (Before k)
  pub clashes : Clashes net (UpTo k)

-- A closed walk over exactly the links that are marked, in at most twice as many steps as there are points, and the orders that its steps are over.
pub record IsMarkedWalk (net : PlainNet) (closed : ClosedWalk) : Type 0 where
  pub size : length closed.over.items ≡ length net.links
  pub goes : IsClosedWalk net (Kept closed.over.items) closed.walk
  pub over : (k : ℕ) → k < length net.links → Kept closed.over.items k ↔ GoesOver closed.walk k
  pub short : length closed.walk ≤ 2 * points net
  pub orders : AreStepOrders net closed.walk closed.orders

-- A closed walk in at most twice as many steps as there are points.
pub record IsShortClosed (net : PlainNet) (walk : List Step) : Type 0 where
  pub goes : IsClosedWalk net EveryLink walk
  pub short : length walk ≤ 2 * points net

-- a timeline fits with the links of a set but one
abbrev pub IsSpared : PlainNet → (ℕ → Type 0) → ℕ → Type 0
IsSpared net Chosen k = HasTimelineWith net (Others Chosen k)

-- Links that rise and are a minimal clash, a closed walk over exactly these, in at most twice as many steps as there are points, and for each of them the least ranks that fit with the others.
pub record IsProvedClash (net : PlainNet) (clash : Clash) : Type 0 where
  pub rising : IsStrictlyIncreasing clash.cites
  pub minimal : IsMinimalClash net clash.cites
  pub closed : IsClosedOver net clash.cites clash.walk
  pub short : length clash.walk ≤ 2 * points net
  pub spares : AreSpares net (Contains clash.cites) clash.cites clash.spares

-- a net has least ranks that fit, or links that are proved to clash
abbrev pub IsAnswered : PlainNet → Type 0
IsAnswered net = ((ranks : List ℕ) × AreLeast (points net) (Fits net) ranks) ⊎ ((clash : Clash) × IsProvedClash net clash)
