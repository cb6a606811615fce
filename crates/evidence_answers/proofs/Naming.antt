-- The intervals that evidence names are those of the document.
use Rattle.std.proofs.Common.{arith}
use Rattle.evidence_check.specs.Supported.{IsSupported}
use Rattle.evidence_format.specs.Evidence.{PlainEvidence, timeline, entails, counter, clash}
use Rattle.net_build.specs.Built.{IsNetOf}
use Rattle.net_build.proofs.Intervals.{as_many}
use Rattle.net_core.specs.Nets.{PlainNet}
use Rattle.tml_refs.specs.Documents.{PlainDocument}
use Rattle.evidence_answers.specs.Texts.{NamesIntervals}

-- intervals of the net are those of the document
pub names_intervals : (contents : PlainDocument) (net : PlainNet) (e : PlainEvidence) → IsNetOf contents net → IsSupported net e → NamesIntervals contents e
names_intervals contents net (timeline ranks) built supported = tt
names_intervals contents net (entails a r b walks) built supported =
    let same = as_many contents net built in (omega (arith, supported.0.0, same), omega (arith, supported.0.1, same))
names_intervals contents net (counter a r b ranks) built supported =
    let same = as_many contents net built in (omega (arith, supported.0.0, same), omega (arith, supported.0.1, same))
names_intervals contents net (clash cites walk spares) built supported = tt
