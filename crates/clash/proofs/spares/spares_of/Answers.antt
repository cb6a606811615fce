use Rattle.std.proofs.Common.{arith}
use Rattle.net_core.specs.Walks.{Kept}
use Rattle.clash.proofs.Spared.{spares_more}
use Rattle.clash.proofs.spares.spares_of.Goals as goal

pub loop-cite-preserved : goal.loop-cite-preserved
loop-cite-preserved c =
    spares_more c.args.net.now (Kept c.args.closed.now.over.items) c.args.cites.now c.loop-cite.cite-index c.loop-cite.spares c.push.new.self c.in_ok-spare.spare
    (omega (arith, c.loop-cite-test.true)) c.loop-cite.invariant c.in_ok-spare.ensures c.in_ok-push.ensures.ok
