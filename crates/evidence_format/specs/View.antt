-- The plain value that evidence stands for.
use Rattle.std.specs.Prelude.{map}
use Rattle.net_core.specs.Ranks.{pairs_of}
use Rattle.evidence_format.specs.declared.body.Body.{Body}
use Rattle.evidence_format.specs.declared.body.Body.TheVariants as body
use Rattle.evidence_format.specs.declared.evidence.Evidence.{Evidence}
use Rattle.evidence_format.specs.declared.evidence.Evidence.TheVariants.{Timeline, Entails, Counter, Clash}
use Rattle.evidence_format.specs.Evidence.{PlainEvidence, timeline, entails, counter, clash}

abbrev pub plain : Evidence → PlainEvidence
plain (Timeline ranks) = timeline (pairs_of ranks)
plain (Entails a r b walks) = entails a r b walks
plain (Counter a r b ranks) = counter a r b (pairs_of ranks)
plain (Clash cites walk spares) = clash cites walk (map pairs_of spares)

-- that of a body as it is read
abbrev pub plain_body : Body → PlainEvidence
plain_body (body.Whole evidence) = plain evidence
plain_body (body.Clash cites walk spares) = clash cites walk (map pairs_of spares)
