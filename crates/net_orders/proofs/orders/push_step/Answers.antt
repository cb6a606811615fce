use Rattle.std.proofs.Common.{◌≢◌, [], ◌∷◌, ◌++◌, ◌≡◌, None, refl, arith}
use Rattle.std.proofs.lemmas.Result.{on_ok_weaker}
use Rattle.net_core.specs.Fits.{KeepsLink}
use Rattle.net_core.specs.Nets.{points}
use Rattle.net_orders.specs.Orders.{HoldsBut, IsTrueBut}
use Rattle.net_orders.specs.declared.orders.Order.{Order}
use Rattle.net_orders.proofs.Ordered.{appends_one, appends_same}
use Rattle.net_orders.proofs.StepsBut.{over_link, over_order}
use Rattle.net_orders.proofs.orders.push_step.Goals as goal

pub returns-then-link-links : goal.returns-then-link-links
returns-then-link-links c =
    let net = c.args.net.now in
    let step = c.args.step.now in
    let link = c.in-Some.link in
    on_ok_weaker c.push_link.result (appends_same (points net) (λ omitted t. link ≢ omitted → KeepsLink net t link) (λ omitted t. HoldsBut net omitted step t) c.args.orders.now c.push_link.new.orders
    (λ omitted t. over_link net omitted link step c.in-Some.ensures (omega arith) t)) c.push_link.ensures

pub returns-in-Some-step_atom : goal.returns-in-Some-step_atom
returns-in-Some-step_atom c =
    let net = c.args.net.now in
    let step = c.args.step.now in
    let atom = c.in-Some-step_atom.atom in
    let order : Order = record { atom = atom; link = None } in
    on_ok_weaker c.push.result (λ (is : c.push.new.self ≡ c.args.orders.now ++ order ∷ []).
    appends_same (points net) (λ omitted t. IsTrueBut omitted order t) (λ omitted t. HoldsBut net omitted step t) c.args.orders.now c.push.new.self
    (λ omitted t. let said = over_order net omitted step atom c.in_default.ensures c.in-Some-step_atom.ensures.exact t in (λ holds. said.0 (holds refl), λ holds is_other. said.1 holds))
    (appends_one (points net) order c.args.orders.now c.push.new.self c.in-Some-step_atom.ensures.in_range is)) c.push.ensures.ok
