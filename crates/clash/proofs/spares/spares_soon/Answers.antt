use Rattle.std.proofs.Common.{Option, slice_index, subst, arith}
use Rattle.std.specs.Option.{IfSome}
use Rattle.net_core.specs.Least.{IsSpare}
use Rattle.net_core.specs.Walks.{Kept}
use Rattle.net_core.specs.declared.ranks.Ranks.{Ranks}
use Rattle.clash.proofs.Spared.{spares_more}
use Rattle.clash.proofs.spares.spares_soon.Goals as goal

pub loop-cite-preserved : goal.loop-cite-preserved
loop-cite-preserved c =
    let net = c.args.net.now in
    let over = c.args.closed.now.over.items in
    let cite = slice_index c.args.cites.now c.loop-cite.cite-index in
    spares_more net (Kept over) c.args.cites.now c.loop-cite.cite-index c.loop-cite.spares c.push.new.self c.in-Some.spare (omega (arith, c.loop-cite-test.true)) c.loop-cite.invariant
    (subst (λ (o : Option Ranks). IfSome o (IsSpare net (Kept over) cite)) c.in-Some.is c.in_ok-spare.ensures.some) c.in_ok-push-in-Some.ensures.ok
