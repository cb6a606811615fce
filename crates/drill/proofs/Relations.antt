-- A relation holds exactly where the orders are true that it is.
use Rattle.std.proofs.Common.{ℕ, Bool, true, false, nat_lt, nat_le, List, [], ◌∷◌, map, refl}
use Rattle.std.specs.Prelude.{if◌then◌else◌}
use Rattle.std.specs.Bool.{Decides}
use Rattle.std.specs.List.{AllByRecursion, list_all}
use Rattle.std.proofs.lemmas.Bool.{and_from, and_parts, leb-true, le-leb, lt-ltb, ltb-true}
use Rattle.net_core.specs.Atoms.{IsInOrder, IsTrueOf, atom_between, orders_of}
use Rattle.net_core.specs.Relations.{Holds}
use Rattle.net_core.specs.declared.atom.PairOrder.{PairOrder}
use Rattle.net_core.specs.declared.net.Ends.{Ends}
use Rattle.net_core.specs.declared.rels.Rel.{Rel}
use Rattle.net_core.proofs.AtomLaws.{relation_by_orders}
use Rattle.drill.specs.Numbers.{does_hold, is_in_order}

-- the test of an order says whether it is true
order_decided : (m n : ℕ) (strict : Bool) → Decides (if strict then nat_lt m n else nat_le m n) (IsInOrder strict m n)
order_decided m n true = (ltb-true m n, lt-ltb m n)
order_decided m n false = (leb-true m n, le-leb m n)

-- and that of some orders whether they all are
all_decided : (a b : Ends) (orders : List PairOrder) → Decides (list_all is_in_order (map (atom_between a b) orders)) (AllByRecursion (IsTrueOf a b) orders)
all_decided a b [] = (λ e. tt, λ h. refl)
all_decided a b (order ∷ orders) =
    let atom = atom_between a b order in
    let first = order_decided atom.from atom.to atom.strict in
    let rest = all_decided a b orders in
    let test = is_in_order atom in
    let tests = list_all is_in_order (map (atom_between a b) orders) in
    (λ e. let both = and_parts test tests e in (first.0 both.0, rest.0 both.1), λ h. and_from test tests (first.1 h.0) (rest.1 h.1))

-- the test says whether the relation holds
pub holds_decided : (r : Rel) (a b : Ends) → Decides (does_hold a r b) (Holds a r b)
holds_decided r a b =
    let by_orders = relation_by_orders r a b in
    let tests = all_decided a b (orders_of r) in
    (λ e. by_orders.1 (tests.0 e), λ h. tests.1 (by_orders.0 h))
