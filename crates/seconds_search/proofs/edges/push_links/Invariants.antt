use Rattle.std.proofs.Common.{◌≡◌, ℕ, ◌*◌, ◌<◌, length}
use Rattle.seconds_search.specs.Edges.{CoversAll, EdgesGrow, IsLineOfLink}
use Rattle.seconds_search.proofs.edges.push_links.Given as goal

-- the lines so far are covered
abbrev pub invariant-loop-link : goal.invariant-loop-link
invariant-loop-link l = record {
  end : l.link-end ≡ length l.timed.net.links;
  grows : EdgesGrow l.timed l.fn.edges.items l.edges.items (4 * l.link);
  covers : (k : ℕ) → k < l.link → CoversAll l.timed l.edges.items (IsLineOfLink k);
}
