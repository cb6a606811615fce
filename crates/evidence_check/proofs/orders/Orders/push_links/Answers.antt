use Rattle.std.proofs.Common.{◌↔◌, ℕ, le_antisymm, subst, arith}
use Rattle.net_core.specs.Nets.{points}
use Rattle.evidence_check.specs.Orders.{KeepsLinksBelow, KeepsOrders}
use Rattle.evidence_check.proofs.OrderSets.{links_more, through}
use Rattle.evidence_check.proofs.orders.Orders.push_links.Goals as goal

pub loop-k-preserved : goal.loop-k-preserved
loop-k-preserved c = record {
  end = c.loop-k.invariant.end;
  keeps = λ t. links_more c.args.net.now t c.loop-k.k _ _ (c.push_link.ensures.keeps t) (c.loop-k.invariant.keeps t);
  within = c.push_link.ensures.within;
  few = c.push_link.ensures.few;
}

pub returns : goal.returns
returns c = record {
  within = c.drop_repeats.ensures.within (points c.args.net.now) c.loop-k.invariant.within;
  same = λ t. through _ _ _ (c.drop_repeats.ensures.keeps t)
      (subst (λ (n : ℕ). KeepsOrders t c.loop-k.self ↔ KeepsLinksBelow c.args.net.now n t) (le_antisymm (omega (arith, c.loop-k.auto.k-end, c.loop-k.invariant.end)) (omega (arith, c.loop-k-test.false, c.loop-k.invariant.end))) (c.loop-k.invariant.keeps t));
}
