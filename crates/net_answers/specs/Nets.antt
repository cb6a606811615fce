-- Commands that ask something of the net of a document.
use Rattle.std.specs.Prelude.{◌≡◌, ◌⊎◌, ℕ, List}
use Rattle.answers.specs.Documents.{Contents}
use Rattle.net_build.specs.Built.{IsNetOf}
use Rattle.net_core.specs.Entailment.{HasTimeline}
use Rattle.net_core.specs.Nets.{PlainNet}
use Rattle.tml_accept.specs.Acceptance.{Says}
use Rattle.tml_refs.specs.Documents.{PlainDocument}
use Rattle.runs.specs.Rows.{Freedom}
use Rattle.runs.specs.declared.status.Status.{Status}
use Rattle.runs.specs.declared.status.Status.TheVariants.{Clash}
use Rattle.net_answers.specs.Showing.{ShowsClash}

-- the document is accepted, and this is its net
abbrev pub HasNet : List ℕ → PlainNet → Type 0
HasNet doc net = (contents : PlainDocument) × Says doc contents × IsNetOf contents net

-- the answers to a document and its net, where some timeline fits
abbrev pub NetAnswers : Type 1
NetAnswers = PlainDocument → PlainNet → Status → List ℕ → Type 0

-- no timeline fits the net, and the text is that of a minimal clash
abbrev pub IsClash : PlainNet → Status → List ℕ → Type 0
IsClash net status text = (status ≡ Clash) × ShowsClash net text

-- a minimal clash, or what is answered where some timeline fits
abbrev pub of_fitting : (PlainNet → Status → List ℕ → Type 0) → PlainNet → Status → List ℕ → Type 0
of_fitting Of net status text = IsClash net status text ⊎ (HasTimeline net × Of net status text)

-- the same of the net of a document
abbrev pub of_net : NetAnswers → Contents
of_net Of contents status text = (net : PlainNet) × IsNetOf contents net × of_fitting (Of contents) net status text

-- the text of a clash is free, whatever was read
abbrev pub ClashIsFree : Freedom
ClashIsFree contents status = status ≡ Clash
