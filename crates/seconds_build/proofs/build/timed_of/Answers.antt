use Rattle.std.proofs.Common.{subst}
use Rattle.net_core.specs.Nets.{IsNet}
use Rattle.seconds_build.proofs.Nets.{is_timed}
use Rattle.seconds_build.proofs.build.timed_of.Goals as goal

pub new-requires : goal.new-requires
new-requires c =
    let net = c.in_ok-net in
    let limits = c.in_ok-limits in
    is_timed c.args.document.now net.net limits.limits net.ensures.net (subst IsNet c.net.view_is c.net.invariant) net.ensures.civil limits.ensures.limits limits.ensures.lengths
