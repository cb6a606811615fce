use Rattle.std.proofs.Common.{◌*◌, length, arith}
use Rattle.net_core.specs.Nets.{intervals, points}
use Rattle.seconds_search.proofs.EdgeLaws.{edges_are}
use Rattle.seconds_search.proofs.edges.edges_of.Goals as goal

pub returns-clause-edges : goal.returns-clause-edges
returns-clause-edges c =
    let net = c.args.timed.now.net in
    edges_are _ _ _ _ _ (3 * intervals net) (2 * points net) (4 * length net.links) c.requires c.new-edges.ensures.items
    c.in_ok-push_intervals.ensures.grows c.in_ok-push_points.ensures.grows c.in_ok-push_links.ensures.grows
    c.in_ok-push_intervals.ensures.covers c.in_ok-push_points.ensures.covers c.in_ok-push_links.ensures.covers

pub returns-clause-few : goal.returns-clause-few
returns-clause-few c =
    let is = c.requires.net in
    omega (arith, c.new-edges.ensures.len, is.few_intervals, is.few_links, c.in_ok-push_intervals.ensures.grows.few, c.in_ok-push_points.ensures.grows.few, c.in_ok-push_links.ensures.grows.few)
