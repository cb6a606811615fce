use Rattle.std.proofs.Common.{take}
use Rattle.net_core.specs.Least.{AreSpares}
use Rattle.net_core.specs.Walks.{Kept}
use Rattle.clash.proofs.spares.spares_of.Given as goal

-- there is a spare for each cite so far
abbrev pub invariant-loop-cite : goal.invariant-loop-cite
invariant-loop-cite l = AreSpares l.net (Kept l.closed.over.items) (take l.cite-index l.cites) l.spares
