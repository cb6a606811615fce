-- What evidence shows, and that it is true. No ranks and no walks of the evidence are named here.
use Rattle.net_core.specs.Clashes.{IsMinimalClash}
use Rattle.net_core.specs.Entailment.{CanFail, Follows, HasTimeline}
use Rattle.net_core.specs.Nets.{PlainNet}
use Rattle.evidence_format.specs.Evidence.{PlainEvidence, timeline, entails, counter, clash}
use Rattle.evidence_check.specs.declared.refusal.Claim.{Claim}
use Rattle.evidence_check.specs.declared.refusal.Claim.TheVariants as claims

abbrev pub claim_of : PlainEvidence → Claim
claim_of (timeline ranks) = claims.Fits
claim_of (entails a r b walks) = claims.Entails
claim_of (counter a r b ranks) = claims.CanFail
claim_of (clash cites walk spares) = claims.Clashes

-- what evidence shows is true
abbrev pub ShowsTruth : PlainNet → PlainEvidence → Type 0
ShowsTruth net (timeline ranks) = HasTimeline net
ShowsTruth net (entails a r b walks) = Follows net a r b
ShowsTruth net (counter a r b ranks) = CanFail net a r b
ShowsTruth net (clash cites walk spares) = IsMinimalClash net cites
