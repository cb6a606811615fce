use Rattle.std.proofs.Common.{◌≡◌, ◌-◌, map}
use Rattle.net_core.specs.Ranks.{pairs_of}
use Rattle.line_texts.specs.Lines.{lines_of}
use Rattle.line_texts.specs.Reading.{many_at}
use Rattle.evidence_format.specs.Readers.{timeline_at}
use Rattle.evidence_format.specs.Timelines.{AreParts, parts_of}
use Rattle.line_texts.proofs.Loops.{with_prefix}
use Rattle.evidence_format.proofs.timeline.timelines_at.Given as goal

-- what was read is parted into timelines, and these and what is still read are all
abbrev pub invariant-loop : goal.invariant-loop
invariant-loop l = AreParts 0 l.ends l.ranks
    × (with_prefix (map pairs_of (parts_of 0 l.ends l.ranks)) (many_at timeline_at (l.count - l.counter) (lines_of l.rest)) ≡ many_at timeline_at l.count (lines_of l.text))
