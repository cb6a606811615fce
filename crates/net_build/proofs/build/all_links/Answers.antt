use Rattle.net_build.specs.Built.{net_link}
use Rattle.net_build.proofs.Pairing.{map_next}
use Rattle.net_build.proofs.build.all_links.Goals as goal

pub loop-k-preserved : goal.loop-k-preserved
loop-k-preserved c = map_next net_link c.args.document.now.links c.loop-k.k c.link-a.result c.loop-k.links c.push.new.self c.link-a.ensures.link c.loop-k.invariant c.in_ok-push.ensures.ok
