-- Whether a document is well annotated. It is looked at in five phases: its bytes are UTF-8, they are cut into units, the units nest, the attributes of the tags are right, and so are their identifiers, references and numbers. The first phase that fails gives the fault: the one at the least place, and of those there the one with the least number.
use Rattle.std.specs.Prelude.{◌≡◌, ◌⊎◌, List, ℕ}
use Rattle.faults.specs.declared.kind.FaultKind.{FaultKind}
use Rattle.tml_tree.specs.Plain.{PlainNode}
use Rattle.tml_tree.specs.Whole.{IsTreeOf, SourceFaultAt}
use Rattle.tml_tree.specs.Walking.{elements}
use Rattle.tml_types.specs.Content.{PlainTyped}
use Rattle.tml_types.specs.Whole.{Types, TagFaultAt as AttributeFaultAt}
use Rattle.tml_refs.specs.Documents.{PlainDocument, Resolved}
use Rattle.tml_refs.specs.Rules.{ReferenceFaultAt}

-- the fault of the bytes, of the units or of their nesting
abbrev pub InUnits : List ℕ → FaultKind → ℕ → Type 0
InUnits doc kind place = SourceFaultAt doc place kind

-- the first tag whose attributes are at fault, where the units make a tree
abbrev pub InAttributes : List ℕ → FaultKind → ℕ → Type 0
InAttributes doc kind place = (root : PlainNode) × IsTreeOf doc root × AttributeFaultAt (elements root) place kind

-- the document has this tree, the attributes of all its tags are right, and these are its typed tags
abbrev pub AreTypedTags : List ℕ → PlainNode → List PlainTyped → Type 0
AreTypedTags doc root tags = IsTreeOf doc root × Types (elements root) tags

-- the first tag whose identifier, references or number are at fault, where the attributes of all are right
abbrev pub InReferences : List ℕ → FaultKind → ℕ → Type 0
InReferences doc kind place = (root : PlainNode) × (tags : List PlainTyped) × AreTypedTags doc root tags × ReferenceFaultAt tags place kind

-- the first fault of a document, by its kind and its place
abbrev pub FirstFault : List ℕ → FaultKind → ℕ → Type 0
FirstFault doc kind place = InUnits doc kind place ⊎ InAttributes doc kind place ⊎ InReferences doc kind place

-- the attributes and references of a tree break no rule, and this is what it says
abbrev pub TreeSays : PlainNode → PlainDocument → Type 0
TreeSays root contents = (tags : List PlainTyped) × Types (elements root) tags × Resolved tags contents

-- no phase has a fault: the document has this tree, and says this
abbrev pub IsAccepted : List ℕ → PlainNode → PlainDocument → Type 0
IsAccepted doc root contents = IsTreeOf doc root × TreeSays root contents

-- no phase has a fault, and the document says this
abbrev pub Says : List ℕ → PlainDocument → Type 0
Says doc contents = (root : PlainNode) × IsAccepted doc root contents

-- no phase has a fault
abbrev pub Accepted : List ℕ → Type 0
Accepted doc = (contents : PlainDocument) × Says doc contents

-- a document has at most one first fault, and none where it is accepted, and then it has one tree and says one thing
pub record OneAcceptance (doc : List ℕ) : Type 0 where
  pub accepted_or_fault : (kind : FaultKind) (place : ℕ) → Accepted doc → FirstFault doc kind place → ⊥
  pub one_fault : (kind other : FaultKind) (place at : ℕ) → FirstFault doc kind place → FirstFault doc other at → (kind ≡ other) × (place ≡ at)
  pub one_document : (root other : PlainNode) (contents others : PlainDocument) → IsAccepted doc root contents → IsAccepted doc other others → (root ≡ other) × (contents ≡ others)

abbrev pub OneAcceptances : Type 0
OneAcceptances = (doc : List ℕ) → OneAcceptance doc

-- a document is accepted, or has a first fault
abbrev pub AcceptedOrFault : List ℕ → Type 0
AcceptedOrFault doc = Accepted doc ⊎ ((kind : FaultKind) × (place : ℕ) × FirstFault doc kind place)
