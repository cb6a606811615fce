-- The evidence that a value of the program stands for.
use Rattle.seconds_core.specs.declared.evidence.SecondsEvidence.{SecondsEvidence}
use Rattle.seconds_core.specs.declared.evidence.SecondsEvidence.TheVariants as evidence
use Rattle.seconds_core.specs.Evidence.{PlainSeconds, Placed, Cycle}

abbrev pub evidence_of : SecondsEvidence → PlainSeconds
evidence_of (evidence.Placing placing) = Placed placing
evidence_of (evidence.Cycle cycle) = Cycle cycle
