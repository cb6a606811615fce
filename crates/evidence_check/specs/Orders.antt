-- Serves the code: the orders that the links of a net are, as lists of one kind each: without the order of their numbers, and how often each stands there.
use Rattle.std.specs.Prelude.{◌↔◌, ℕ, ◌<◌, ◌≤◌, length}
use Rattle.std.specs.List.{All}
use Rattle.net_core.specs.Fits.{KeepsLink}
use Rattle.net_core.specs.Nets.{PlainNet, points}
use Rattle.net_core.specs.Relations.{Timeline}
use Rattle.evidence_check.specs.declared.orders.Orders.{Orders}
use Rattle.evidence_check.specs.declared.pairs.Order.TheVariants.{Before, NoLater, Equal}
use Rattle.evidence_check.specs.Pairs.{IsKept, IsPairWithin}

-- a timeline keeps the orders
pub record KeepsOrders (t : Timeline) (orders : Orders) : Type 0 where
  pub befores : All (IsKept Before t) orders.befores
  pub no_laters : All (IsKept NoLater t) orders.no_laters
  pub equals : All (IsKept Equal t) orders.equals

-- all points are below n
pub record AreOrdersWithin (n : ℕ) (orders : Orders) : Type 0 where
  pub befores : All (IsPairWithin Before n) orders.befores
  pub no_laters : All (IsPairWithin NoLater n) orders.no_laters
  pub equals : All (IsPairWithin Equal n) orders.equals

-- there are no more than n of each kind
pub record AreAtMost (n : ℕ) (orders : Orders) : Type 0 where
  pub befores : length orders.befores ≤ n
  pub no_laters : length orders.no_laters ≤ n
  pub equals : length orders.equals ≤ n

-- a timeline keeps the links of a net below n
abbrev pub KeepsLinksBelow : PlainNet → ℕ → Timeline → Type 0
KeepsLinksBelow net n t = (k : ℕ) → k < n → KeepsLink net t k

-- the orders of the links of a net: they are of its points, and a timeline keeps them exactly where it keeps the links
pub record AreOrdersOf (net : PlainNet) (orders : Orders) : Type 0 where
  pub within : AreOrdersWithin (points net) orders
  pub same : (t : Timeline) → KeepsOrders t orders ↔ KeepsLinksBelow net (length net.links) t
