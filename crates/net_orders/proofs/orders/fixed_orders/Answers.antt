use Rattle.std.proofs.Common.{◌≡◌, ◌*◌, ◌+◌, ℕ, [], ◌∷◌, ◌++◌, subst, ◌∙◌, arith, rules}
use Rattle.net_core.specs.Atoms.{before}
use Rattle.net_core.specs.Nets.{intervals}
use Rattle.net_core.specs.Relations.{Timeline}
use Rattle.order_closure.specs.Tables.{SatisfiesAll}
use Rattle.net_orders.proofs.Ordered.{IsFixedBelow, fixed_more}
use Rattle.net_orders.proofs.orders.fixed_orders.Goals as goal

pub loop-interval-init : goal.loop-interval-init
loop-interval-init c = record {
  end = c.intervals-interval-end.ensures.count;
  in_range = c.in_ok-fixed.ensures.in_range;
  spans = λ t all i lt. absurd (omega arith);
  dates = c.in_ok-fixed.ensures.exact;
}

pub loop-interval-preserved : goal.loop-interval-preserved
loop-interval-preserved c =
    let net = c.args.net.now in
    let i = c.loop-interval.interval in
    let pushed : c.push.new.self.items ≡ c.loop-interval.fixed.items ++ c.span_order.result ∷ [] = search rules in
    let more : c.push.new.self.items ≡ c.loop-interval.fixed.items ++ before (2 * i) (2 * i + 1) ∷ [] = pushed ∙ (λ k. c.loop-interval.fixed.items ++ c.span_order.ensures k ∷ []) in
    let all = fixed_more net i c.loop-interval.fixed.items c.push.new.self.items (omega (arith, c.loop-interval.invariant.end, c.loop-interval-test.true)) more
    c.loop-interval.invariant.in_range c.loop-interval.invariant.spans c.loop-interval.invariant.dates in
    record { end = c.loop-interval.invariant.end; in_range = all.0; spans = all.1; dates = all.2 }

pub returns : goal.returns
returns c =
    let net = c.args.net.now in
    let fixed = c.loop-interval.fixed.items in
    let end : c.loop-interval.interval ≡ intervals net = omega (arith, c.loop-interval.invariant.end, c.loop-interval-test.false) in
    let spans = λ (t : Timeline) (all : SatisfiesAll fixed t). subst (λ (n : ℕ). IsFixedBelow n t) end (c.loop-interval.invariant.spans t all) in
    record {
      in_range = c.loop-interval.invariant.in_range;
      exact = λ t. (
        λ all. (spans t all, (c.loop-interval.invariant.dates t (spans t all)).0 all),
        λ both. (c.loop-interval.invariant.dates t both.0).1 both.1,
      );
    }
