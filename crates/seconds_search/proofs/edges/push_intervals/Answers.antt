use Rattle.std.proofs.Common.{◌*◌, ◌+◌, arith}
use Rattle.seconds_search.specs.Edges.{IsOfInterval}
use Rattle.seconds_search.proofs.EdgeLaws.{all_covered, grows_on}
use Rattle.seconds_search.proofs.edges.push_intervals.Goals as goal

pub loop-interval-preserved : goal.loop-interval-preserved
loop-interval-preserved c =
    let k = c.loop-interval.interval in
    let so_far = c.loop-interval.invariant in
    let more = c.in_ok-push_interval.ensures in
    record {
      end = so_far.end;
      grows = grows_on _ _ _ _ (3 * k) 3 (3 * (k + 1)) (omega arith) so_far.grows more.grows;
      covers = all_covered IsOfInterval _ _ _ 3 k more.grows so_far.covers more.covers;
    }
