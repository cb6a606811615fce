use Rattle.std.proofs.Common.{◌≡◌, ℕ, ◌*◌, ◌-◌, ◌<◌, ◌≤◌, length}
use Rattle.net_core.specs.Nets.{points}
use Rattle.walks.specs.Graphs.{IsWay}
use Rattle.walks.specs.States.{AreTraced, IsExpanded, entry_at, start_entry}
use Rattle.walks.proofs.search.search.Given as goal

-- the entries before the head are expanded
abbrev pub invariant-loop-head : goal.invariant-loop-head
invariant-loop-head l = record {
  points : l.states.points ≡ points l.net;
  some : 0 < length l.states.entries;
  start : entry_at l.states.entries 0 ≡ start_entry l.from;
  traced : AreTraced (IsWay l.net l.graph) l.from l.states.entries;
  head : l.head ≤ length l.states.entries;
  expanded : (k : ℕ) → k < l.head → IsExpanded (IsWay l.net l.graph) l.states.entries k;
}

abbrev pub decreases-loop-head : goal.decreases-loop-head
decreases-loop-head l = 2 * l.states.points - l.head
