use Rattle.net_build.proofs.DocumentNets.{is_net}
use Rattle.net_build.proofs.build.net_of.Goals as goal

pub new-requires : goal.new-requires
new-requires c = is_net c.args.document.now c.in_ok-bounds.bounds c.in_ok-links.links c.in_ok-bounds.ensures.document c.in_ok-bounds.ensures.bounds c.in_ok-bounds.ensures.ordered c.in_ok-links.ensures
