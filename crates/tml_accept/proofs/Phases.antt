-- A document has one first fault or says one thing: each phase has one fault at most, and where a phase has one the later phases have none.
use Rattle.std.proofs.Common.{◌≡◌, ◌⊎◌, inl, inr, ℕ, List, subst}
use Rattle.faults.specs.declared.kind.FaultKind.{FaultKind}
use Rattle.tml_tree.specs.Plain.{PlainNode}
use Rattle.tml_tree.specs.Walking.{elements}
use Rattle.tml_tree.specs.Whole.{IsTreeOf}
use Rattle.tml_tree.proofs.Faults as trees
use Rattle.tml_tree.proofs.Paths.{one_tree_of_source}
use Rattle.tml_types.specs.Content.{PlainTyped}
use Rattle.tml_types.specs.Whole.{TagFaultAt as AttributeFaultAt, Types}
use Rattle.tml_types.proofs.OneAnswer as tags
use Rattle.tml_refs.specs.Documents.{PlainDocument, Resolved}
use Rattle.tml_refs.specs.Rules.{ReferenceFaultAt}
use Rattle.tml_refs.proofs.OneAnswer as documents
use Rattle.tml_accept.specs.Acceptance.{InUnits, InAttributes, AreTypedTags, InReferences, Accepted, FirstFault, IsAccepted, OneAcceptances, Says}

-- there is one fault at most
abbrev pub One : (FaultKind → ℕ → Type 0) → Type 0
One Fault = (kind other : FaultKind) (place at : ℕ) → Fault kind place → Fault other at → (kind ≡ other) × (place ≡ at)

-- of two phases that exclude each other there is one fault at most
one_of_both : (A B : FaultKind → ℕ → Type 0) → One A → One B → ((kind other : FaultKind) (place at : ℕ) → A kind place → B other at → ⊥) → One (λ kind place. A kind place ⊎ B kind place)
one_of_both A B a b none kind other place at (inl h) (inl k) = a kind other place at h k
one_of_both A B a b none kind other place at (inl h) (inr k) = absurd (none kind other place at h k)
one_of_both A B a b none kind other place at (inr h) (inl k) = absurd (none other kind at place k h)
one_of_both A B a b none kind other place at (inr h) (inr k) = b kind other place at h k

one_in_units : (doc : List ℕ) → One (InUnits doc)
one_in_units doc kind other place at h k = let same = (trees.one_source_answer doc).one_fault place at kind other h k in (same.1, same.0)

-- ---- the attributes

-- the fault of a document is one of the tags of its tree
of_its_tags : (doc : List ℕ) (kind : FaultKind) (place : ℕ) (root : PlainNode) → IsTreeOf doc root → InAttributes doc kind place → AttributeFaultAt (elements root) place kind
of_its_tags doc kind place root t h = subst (λ (r : PlainNode). AttributeFaultAt (elements r) place kind) (one_tree_of_source doc h.0 root h.1 t) h.2

one_in_attributes : (doc : List ℕ) → One (InAttributes doc)
one_in_attributes doc kind other place at h k =
    let same = (tags.one_answer (elements k.0)).one_fault place at kind other (of_its_tags doc kind place k.0 k.1 h) k.2 in
    (same.1, same.0)

none_in_attributes : (doc : List ℕ) (kind : FaultKind) (place : ℕ) (root : PlainNode) (all : List PlainTyped) → AreTypedTags doc root all → InAttributes doc kind place → ⊥
none_in_attributes doc kind place root all t h = (tags.one_answer (elements root)).typed_or_fault all place kind t.1 (of_its_tags doc kind place root t.0 h)

one_typed_tags : (doc : List ℕ) (root other : PlainNode) (all others : List PlainTyped) → AreTypedTags doc root all → AreTypedTags doc other others → all ≡ others
one_typed_tags doc root other all others h k =
    let same = one_tree_of_source doc root other h.0 k.0 in
    (tags.one_answer (elements other)).one_typed all others (subst (λ (r : PlainNode). Types (elements r) all) same h.1) k.1

-- ---- the identifiers, references and numbers

-- the fault of a document is one of its typed tags
of_its_typed_tags : (doc : List ℕ) (kind : FaultKind) (place : ℕ) (root : PlainNode) (all : List PlainTyped) → AreTypedTags doc root all → InReferences doc kind place → ReferenceFaultAt all place kind
of_its_typed_tags doc kind place root all typed h = subst (λ (t : List PlainTyped). ReferenceFaultAt t place kind) (one_typed_tags doc h.0 root h.1 all h.2 typed) h.3

one_in_references : (doc : List ℕ) → One (InReferences doc)
one_in_references doc kind other place at h k =
    let same = (documents.one_answer k.1).one_fault place at kind other (of_its_typed_tags doc kind place k.0 k.1 k.2 h) k.3 in
    (same.1, same.0)

none_in_references : (doc : List ℕ) (kind : FaultKind) (place : ℕ) (root : PlainNode) (contents : PlainDocument) → IsAccepted doc root contents → InReferences doc kind place → ⊥
none_in_references doc kind place root contents (tree, says) h = (documents.one_answer says.0).document_or_fault contents place kind says.2 (of_its_typed_tags doc kind place root says.0 (tree, says.1) h)

-- ---- all phases

-- where the attributes or what comes later is at fault, there is a tree
none_in_units : (doc : List ℕ) (kind other : FaultKind) (place at : ℕ) → InUnits doc kind place → InAttributes doc other at ⊎ InReferences doc other at → ⊥
none_in_units doc kind other place at h (inl k) = (trees.one_source_answer doc).tree_or_fault k.0 place kind k.1 h
none_in_units doc kind other place at h (inr k) = (trees.one_source_answer doc).tree_or_fault k.0 place kind k.2.0 h

pub one_fault : (doc : List ℕ) → One (FirstFault doc)
one_fault doc =
    let late = one_of_both (InAttributes doc) (InReferences doc) (one_in_attributes doc) (one_in_references doc) (λ kind other place at h k. none_in_attributes doc kind place k.0 k.1 k.2 h) in
    one_of_both (InUnits doc) (λ kind place. InAttributes doc kind place ⊎ InReferences doc kind place) (one_in_units doc) late (none_in_units doc)

no_fault : (doc : List ℕ) (root : PlainNode) (contents : PlainDocument) (kind : FaultKind) (place : ℕ) → IsAccepted doc root contents → FirstFault doc kind place → ⊥
no_fault doc root contents kind place a (inl h) = (trees.one_source_answer doc).tree_or_fault root place kind a.0 h
no_fault doc root contents kind place a (inr (inl h)) = none_in_attributes doc kind place root a.1.0 (a.0, a.1.1) h
no_fault doc root contents kind place a (inr (inr h)) = none_in_references doc kind place root contents a h

pub accepted_or_fault : (doc : List ℕ) (kind : FaultKind) (place : ℕ) → Accepted doc → FirstFault doc kind place → ⊥
accepted_or_fault doc kind place a h = no_fault doc a.1.0 a.0 kind place a.1.1 h

-- a document says one thing
pub one_document : (doc : List ℕ) (c d : PlainDocument) → Says doc c → Says doc d → c ≡ d
one_document doc c d h k =
    let a = h.1.1 in
    let b = k.1.1 in
    let same = one_typed_tags doc h.0 k.0 a.0 b.0 (h.1.0, a.1) (k.1.0, b.1) in
    (documents.one_answer b.0).one_document c d (subst (λ (t : List PlainTyped). Resolved t c) same a.2) b.2

pub one_acceptance : OneAcceptances
one_acceptance = λ doc. record {
  accepted_or_fault = accepted_or_fault doc;
  one_fault = one_fault doc;
  one_document = λ root other c d h k. (one_tree_of_source doc root other h.0 k.0, one_document doc c d (root, h) (other, k));
}
