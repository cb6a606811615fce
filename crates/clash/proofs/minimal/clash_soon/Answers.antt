use Rattle.std.proofs.Common.{◌*◌, ◌≤◌, Option, length, subst}
use Rattle.std.specs.Option.{IfSome}
use Rattle.net_core.specs.Fits.{EveryLink}
use Rattle.net_core.specs.Nets.{points}
use Rattle.net_core.specs.Walks.{IsClosedWalk, Kept}
use Rattle.net_core.specs.declared.walk.Walk.{Walk}
use Rattle.net_core.proofs.WalkLaws.{closed_walk_more}
use Rattle.clash.proofs.minimal.clash_soon.Goals as goal

pub clash_on-requires-clause-goes : goal.clash_on-requires-clause-goes
clash_on-requires-clause-goes c =
    let net = c.args.net.now in
    let keep = c.deref-2.result.now in
    let goes = subst (λ (o : Option Walk). IfSome o (λ steps. IsClosedWalk net (Kept keep) steps × (length steps ≤ 2 * points net))) c.in-Some-4.is c.in_ok-walk-2.ensures.some in
    closed_walk_more net (Kept keep) EveryLink c.in-Some-4.walk (λ k kept. tt) goes.0
