use Rattle.std.proofs.Common.{◌≡◌, ℕ, ◌*◌, ◌<◌}
use Rattle.net_core.specs.Nets.{intervals}
use Rattle.seconds_search.specs.Edges.{CoversAll, EdgesGrow, IsOfInterval}
use Rattle.seconds_search.proofs.edges.push_intervals.Given as goal

-- the lines so far are covered
abbrev pub invariant-loop-interval : goal.invariant-loop-interval
invariant-loop-interval l = record {
  end : l.interval-end ≡ intervals l.timed.net;
  grows : EdgesGrow l.timed l.fn.edges.items l.edges.items (3 * l.interval);
  covers : (k : ℕ) → k < l.interval → CoversAll l.timed l.edges.items (IsOfInterval k);
}
