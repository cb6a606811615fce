-- What the answers to a net have, so that the rows of a command are answered.
use Rattle.std.specs.Prelude.{◌≡◌, ⊤}
use Rattle.net_core.specs.Entailment.{HasTimeline}
use Rattle.net_core.specs.Nets.{IsNet, PlainNet}
use Rattle.tml_refs.specs.Documents.{PlainDocument}
use Rattle.runs.specs.declared.status.Status.TheVariants.{Clash}
use Rattle.runs.proofs.Answering.{IsAnswered}
use Rattle.net_answers.specs.Nets.{NetAnswers}

-- a net that some timeline fits has an answer, with one text where this is not that of a clash
abbrev pub NetsAreAnswered : NetAnswers → Type 0
NetsAreAnswered Of = (contents : PlainDocument) (net : PlainNet) → IsNet net → HasTimeline net → IsAnswered ⊤ (Of contents net) (λ status. status ≡ Clash)
