use Rattle.std.proofs.Common.{◌*◌, ◌≤◌, Option, length, subst, true}
use Rattle.std.specs.Option.{IfSome}
use Rattle.net_core.specs.Fits.{EveryLink}
use Rattle.net_core.specs.Nets.{points}
use Rattle.net_core.specs.Walks.{IsWalk, Kept}
use Rattle.net_core.specs.declared.walk.Walk.{Walk}
use Rattle.net_core.proofs.WalkLaws.{closed_walk_more}
use Rattle.clash.proofs.short_walk.improve.Goals as goal

pub returns-then-is_better : goal.returns-then-is_better
returns-then-is_better c =
    let net = c.args.net.now in
    let keep = c.args.keep.now in
    let point = c.args.point in
    let goes = subst (λ (o : Option Walk). IfSome o (λ steps. IsWalk net (Kept keep) point point true steps × (length steps ≤ 2 * points net))) c.in-Some.is c.in_ok-found.ensures.some in
    record { goes = closed_walk_more net (Kept keep) EveryLink c.in-Some.found (λ k kept. tt) (point, goes.0); short = goes.1 }
