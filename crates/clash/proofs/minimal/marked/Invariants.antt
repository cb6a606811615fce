use Rattle.std.proofs.Common.{◌≡◌, length}
use Rattle.clash.proofs.MarkedLinks.{AreMarked}
use Rattle.clash.proofs.minimal.marked.Given as goal

-- the marked links so far stand in the list
abbrev pub invariant-loop-link : goal.invariant-loop-link
invariant-loop-link l = (l.link-end ≡ length l.net.links) × AreMarked l.marks l.link l.links
