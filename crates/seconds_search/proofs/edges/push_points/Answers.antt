use Rattle.std.proofs.Common.{◌*◌, ◌+◌, arith}
use Rattle.seconds_search.specs.Edges.{IsOfPoint}
use Rattle.seconds_search.proofs.EdgeLaws.{all_covered, grows_on}
use Rattle.seconds_search.proofs.edges.push_points.Goals as goal

pub loop-point-preserved : goal.loop-point-preserved
loop-point-preserved c =
    let k = c.loop-point.point in
    let so_far = c.loop-point.invariant in
    let more = c.in_ok-push_point.ensures in
    record {
      end = so_far.end;
      grows = grows_on _ _ _ _ (2 * k) 2 (2 * (k + 1)) (omega arith) so_far.grows more.grows;
      covers = all_covered IsOfPoint _ _ _ 2 k more.grows so_far.covers more.covers;
    }
