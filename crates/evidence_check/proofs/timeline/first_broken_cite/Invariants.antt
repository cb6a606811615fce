use Rattle.std.proofs.Common.{◌≢◌, ℕ, ◌<◌, slice_index}
use Rattle.net_core.specs.Fits.{KeepsLink}
use Rattle.net_core.specs.Ranks.{timeline_of}
use Rattle.evidence_check.proofs.timeline.first_broken_cite.Given as goal

-- the cited links so far hold, but for the one that is not asked
abbrev pub invariant-loop-cite : goal.invariant-loop-cite
invariant-loop-cite l = (j : ℕ) → j < l.cite-index → slice_index l.cites j ≢ l.own → KeepsLink l.net (timeline_of l.ranks) (slice_index l.cites j)
