use Rattle.std.proofs.Common.{◌≡◌, map, take}
use Rattle.net_build.specs.Built.{net_link}
use Rattle.net_build.proofs.build.all_links.Given as goal

-- the links so far are the first links
abbrev pub invariant-loop-k : goal.invariant-loop-k
invariant-loop-k l = l.links ≡ map net_link (take l.k l.document.links)
