use Rattle.std.proofs.Common.{ℕ, ◌<◌, length}
use Rattle.evidence_check.specs.Refusals.{cite_at}
use Rattle.evidence_check.proofs.checker.check_cites.Given as goal

-- the cites so far are numbers of links
abbrev pub invariant-loop-cite : goal.invariant-loop-cite
invariant-loop-cite l = (j : ℕ) → j < l.cite-index → cite_at l.cites j < length l.net.links
