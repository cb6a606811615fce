use Rattle.std.proofs.Common.{◌≡◌, ℕ, ◌+◌, length, subst, arith}
use Rattle.tml_score.specs.Graph.{AddsOrders, IsOrderOfLink, IsOfSome}
use Rattle.tml_score.proofs.GraphLaws.{OfFirst, adds_none, adds_same, adds_then, of_first_more}
use Rattle.tml_score.proofs.graph.push_links.Goals as goal

pub loop-link-init : goal.loop-link-init
loop-link-init c = record {
  end = c.links-link-end.ensures.count;
  so_far = adds_none (OfFirst (IsOrderOfLink c.args.net.now) 0) c.args.orders.now.items (λ o h. let lt = h.1 in omega arith);
}

pub loop-link-preserved : goal.loop-link-preserved
loop-link-preserved c =
    let own = IsOrderOfLink c.args.net.now in
    let link = c.loop-link.link in
    record {
      end = c.loop-link.invariant.end;
      so_far = adds_then (OfFirst own link) (own link) (OfFirst own (link + 1)) c.args.orders.now.items c.loop-link.orders.items c.push_link.new.orders.items (of_first_more own link) c.loop-link.invariant.so_far c.in_ok-push_link.ensures;
    }

pub returns : goal.returns
returns c =
    let net = c.args.net.now in
    let end : c.loop-link.link ≡ length net.links = omega arith in
    let so_far = subst (λ (n : ℕ). AddsOrders (OfFirst (IsOrderOfLink net) n) c.args.orders.now.items c.loop-link.orders.items) end c.loop-link.invariant.so_far in
    adds_same (OfFirst (IsOrderOfLink net) (length net.links)) (IsOfSome net) c.args.orders.now.items c.loop-link.orders.items (λ o. (λ h. h, λ h. h)) so_far
