use Rattle.std.proofs.Common.{ℕ, [], length, get_or, subst, arith, ◌≡◌}
use Rattle.net_core.specs.Nets.{points}
use Rattle.net_core.specs.Relations.{Timeline}
use Rattle.net_orders.specs.Orders.{AllHoldBut, HoldsBut, AppendsOrders}
use Rattle.net_orders.proofs.Ordered.{orders_appended, appends_more, appends_same}
use Rattle.net_orders.proofs.Steps.{Below, all_below}
use Rattle.net_orders.proofs.StepsBut.{no_step}
use Rattle.net_orders.proofs.orders.orders_of.Goals as goal

pub loop-step-preserved : goal.loop-step-preserved
loop-step-preserved c =
    appends_more (points c.args.net.now) (λ k omitted u. HoldsBut c.args.net.now omitted (get_or c.args.steps.now k no_step) u) c.loop-step.step-index [] c.loop-step.orders c.push_step.new.orders
    c.loop-step.invariant c.in_ok-push_step.ensures

pub returns : goal.returns
returns c =
    let net = c.args.net.now in
    let steps = c.args.steps.now in
    let end : c.loop-step.step-index ≡ length steps = omega arith in
    let Says = λ (omitted : ℕ) (t : Timeline). AllHoldBut net omitted steps t in
    let both = orders_appended (points net) Says c.loop-step.orders
    (appends_same (points net) (λ omitted t. Below (λ k u. HoldsBut net omitted (get_or steps k no_step) u) (length steps) t) Says [] c.loop-step.orders (λ omitted t. all_below (HoldsBut net omitted) steps no_step t)
    (subst (λ (n : ℕ). AppendsOrders (points net) (λ omitted t. Below (λ k u. HoldsBut net omitted (get_or steps k no_step) u) n t) [] c.loop-step.orders) end c.loop-step.invariant)) in
    record { in_range = both.0; exact = both.1 }
