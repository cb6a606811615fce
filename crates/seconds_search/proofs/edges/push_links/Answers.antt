use Rattle.std.proofs.Common.{◌*◌, ◌+◌, arith}
use Rattle.seconds_search.specs.Edges.{IsLineOfLink}
use Rattle.seconds_search.proofs.EdgeLaws.{all_covered, grows_on}
use Rattle.seconds_search.proofs.edges.push_links.Goals as goal

pub loop-link-preserved : goal.loop-link-preserved
loop-link-preserved c =
    let k = c.loop-link.link in
    let so_far = c.loop-link.invariant in
    let more = c.in_ok-push_link.ensures in
    record {
      end = so_far.end;
      grows = grows_on _ _ _ _ (4 * k) 4 (4 * (k + 1)) (omega arith) so_far.grows more.grows;
      covers = all_covered IsLineOfLink _ _ _ 4 k more.grows so_far.covers more.covers;
    }
