-- Typed tags have one answer.
use Rattle.std.specs.Prelude.{◌≡◌, ◌⊎◌, ℕ, List}
use Rattle.faults.specs.declared.kind.FaultKind.{FaultKind}
use Rattle.tml_tree.specs.Walking.{PlainTag}
use Rattle.tml_types.specs.Content.{PlainTyped}
use Rattle.tml_types.specs.Whole.{Types}
use Rattle.tml_refs.specs.Documents.{PlainDocument, Resolved}
use Rattle.tml_refs.specs.Rules.{ReferenceFaultAt}

-- a document and a fault exclude each other, and of both there is one
pub record OneDocumentAnswer (all : List PlainTyped) : Type 0 where
  pub document_or_fault : (doc : PlainDocument) (place : ℕ) (rule : FaultKind) → Resolved all doc → ReferenceFaultAt all place rule → ⊥
  pub one_fault : (place other : ℕ) (rule another : FaultKind) → ReferenceFaultAt all place rule → ReferenceFaultAt all other another → (place ≡ other) × (rule ≡ another)
  pub one_document : (doc other : PlainDocument) → Resolved all doc → Resolved all other → doc ≡ other

abbrev pub OneDocumentAnswers : Type 0
OneDocumentAnswers = (all : List PlainTyped) → OneDocumentAnswer all

-- typed tags make a document, or have a fault
abbrev pub DocumentOrFault : List PlainTyped → Type 0
DocumentOrFault all = ((doc : PlainDocument) × Resolved all doc) ⊎ ((place : ℕ) × (rule : FaultKind) × ReferenceFaultAt all place rule)

-- the typed tags of tags do: then each reference of a link asks for an interval
abbrev pub AllAreResolved : Type 0
AllAreResolved = (tags : List PlainTag) (all : List PlainTyped) → Types tags all → DocumentOrFault all
