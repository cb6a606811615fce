-- Ranks that are raised in turns until they settle.
use Rattle.std.proofs.Common.{◌↔◌, ℕ, ◌<◌, List, length, take, drop, subst, arith, inl, inr}
use Rattle.std.specs.List.{All}
use Rattle.std.proofs.lemmas.Bool.{cases_lt}
use Rattle.std.proofs.lemmas.List.{get_or_past, take-append-drop}
use Rattle.std.proofs.lemmas.List.Elements.{All-get_or}
use Rattle.net_core.specs.Limits.{max_points}
use Rattle.net_core.specs.Relations.{Timeline}
use Rattle.net_core.specs.declared.atom.Atom.{Atom}
use Rattle.order_closure.specs.Tables.{SatisfiesAll}
use Rattle.net_orders.specs.Orders.{AllAreTrueBut, FitsBut, IsTrueBut}
use Rattle.net_orders.specs.Raising.{AreLow, RisesUntil}
use Rattle.net_orders.specs.declared.orders.Order.{Order}
use Rattle.net_orders.proofs.Ordered.{all_parts}
use Rattle.net_orders.proofs.Rising.{until_then}

-- all orders are true exactly where the first ones are and the others
pub cut_orders : (place omitted : ℕ) (orders : List Order) (t : Timeline) → AllAreTrueBut omitted orders t ↔ (AllAreTrueBut omitted (take place orders) t × AllAreTrueBut omitted (drop place orders) t)
cut_orders place omitted orders t =
    subst (λ (xs : List Order). AllAreTrueBut omitted xs t ↔ (AllAreTrueBut omitted (take place orders) t × AllAreTrueBut omitted (drop place orders) t)) (take-append-drop place orders)
    (all_parts (λ (o : Order). IsTrueBut omitted o t) (take place orders) (drop place orders))

-- ranks rose by the one part of orders, by the other, and by those that are fixed
pub rose : (omitted : ℕ) (orders one other : List Order) (fixed : List Atom) (a b c d : List ℕ) → ((t : Timeline) → AllAreTrueBut omitted orders t ↔ (AllAreTrueBut omitted one t × AllAreTrueBut omitted other t))
    → RisesUntil (AllAreTrueBut omitted one) a b → RisesUntil (AllAreTrueBut omitted other) b c → RisesUntil (SatisfiesAll fixed) c d → RisesUntil (FitsBut orders fixed omitted) a d
rose omitted orders one other fixed a b c d parts first second third =
    until_then (AllAreTrueBut omitted orders) (SatisfiesAll fixed) (FitsBut orders fixed omitted) a c d (λ t. (λ all. (all.held, all.kept), λ both. record { held = both.0; kept = both.1 }))
    (until_then (AllAreTrueBut omitted one) (AllAreTrueBut omitted other) (AllAreTrueBut omitted orders) a b c parts first second) third

-- where all ranks are below the highest that is given, so is what is read past them
pub low_from_all : (ranks : List ℕ) → All (λ (rank : ℕ). rank < max_points) ranks → AreLow ranks
low_from_all ranks all p = elim (cases_lt p (length ranks)) [
  | inl lt ↦ All-get_or (λ (rank : ℕ). rank < max_points) ranks p 0 lt all
  | inr past ↦ omega (arith, get_or_past ranks p 0 past)
]
