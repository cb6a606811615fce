use Rattle.std.proofs.Common.{List, subst}
use Rattle.net_core.specs.declared.atom.Atom.{Atom}
use Rattle.tml_score.specs.Graph.{AddsOrders, IsFixedOrder}
use Rattle.tml_score.proofs.GraphLaws.{all_added}
use Rattle.tml_score.proofs.graph.orders_of.Goals as goal

pub returns : goal.returns
returns c =
    let net = c.args.net.now in
    let fixed = c.in_ok-fixed.fixed.items in
    let old = c.new-orders.result.items in
    let mid = c.push_fixed.new.orders.items in
    let new = c.push_links.new.orders.items in
    let first : AddsOrders (IsFixedOrder fixed) old mid = subst (λ (xs : List Atom). AddsOrders (IsFixedOrder xs) old mid) c.deref.ensures.value c.in_ok-push_fixed.ensures in
    record {
      fixed = fixed;
      are_fixed = c.in_ok-fixed.ensures;
      all = all_added net fixed old mid new c.new-orders.ensures.items first c.in_ok-push_links.ensures;
    }
