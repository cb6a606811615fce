-- The rules of identifiers, references and limits, and the first tag that breaks one.
use Rattle.std.specs.Prelude.{◌≡◌, ℕ, Bool, true, false, ◌&&◌, ◌||◌, not, ◌==◌, List, Option, Some, None, IfSome}
use Rattle.std.specs.List.{list_any, count_by}
use Rattle.std.specs.Str.{bytes_eq}
use Rattle.faults.specs.declared.kind.FaultKind.{FaultKind}
use Rattle.faults.specs.declared.kind.FaultKind.TheVariants as kinds
use Rattle.faults.specs.First.{FirstBrokenRule}
use Rattle.faults.specs.Kinds.{number_of}
use Rattle.net_core.specs.Limits.{max_intervals, max_links}
use Rattle.tml_types.specs.declared.typed.TagKind.TheVariants as kind
use Rattle.tml_types.specs.Content.{PlainTyped, Reference}
use Rattle.tml_types.specs.Places.{place_of}
use Rattle.tml_types.specs.References.{id_of, is_of_kind, references_of}
use Rattle.tml_refs.specs.declared.resolving.RefFault.{RefFault}
use Rattle.tml_refs.specs.declared.resolving.RefFault.TheVariants as faults

-- a tag has this identifier
abbrev pub has_id : List ℕ → PlainTyped → Bool
has_id name t = elim (id_of t.content) [ None ↦ false | Some id ↦ bytes_eq name id ]

-- a tag is what a reference asks for
abbrev pub is_target : Reference → PlainTyped → Bool
is_target r t = is_of_kind r.asked t.content && has_id r.name t

-- no tag of the document is what the reference asks for
abbrev pub is_unknown : List PlainTyped → Reference → Bool
is_unknown all r = not (list_any (is_target r) all)

-- a tag stands for an interval of time, or for a link
abbrev pub is_interval : PlainTyped → Bool
is_interval t = is_of_kind kind.Instance t.content || is_of_kind kind.Timex t.content

abbrev pub is_tlink : PlainTyped → Bool
is_tlink t = is_of_kind kind.Tlink t.content

-- A tag of a document, after the tags before it, breaks a rule: its identifier is that of a tag before it, one of its references is to no tag of the document, it is the first interval too many, or the first link too many.
abbrev pub breaks : List PlainTyped → FaultKind → List PlainTyped → PlainTyped → Bool
breaks all kinds.DuplicateId before tag = elim (id_of tag.content) [ None ↦ false | Some id ↦ list_any (has_id id) before ]
breaks all kinds.UnknownReference before tag = list_any (is_unknown all) (references_of tag.content)
breaks all kinds.TooManyIntervals before tag = is_interval tag && count_by is_interval before == max_intervals
breaks all kinds.TooManyLinks before tag = is_tlink tag && count_by is_tlink before == max_links
breaks all other before tag = false

abbrev pub BreaksReferenceRule : List PlainTyped → FaultKind → List PlainTyped → PlainTyped → Type 0
BreaksReferenceRule all rule before tag = breaks all rule before tag ≡ true

-- at a place stands the first tag of a document that breaks a rule, and this is the first rule that it breaks
abbrev pub ReferenceFaultAt : List PlainTyped → ℕ → FaultKind → Type 0
ReferenceFaultAt all place rule = FirstBrokenRule (BreaksReferenceRule all) number_of place_of all place rule

-- the kind and the place of a fault; out of memory has none
abbrev pub kind_and_place : RefFault → Option (FaultKind × ℕ)
kind_and_place (faults.DuplicateId place) = Some (kinds.DuplicateId, place)
kind_and_place (faults.UnknownReference place) = Some (kinds.UnknownReference, place)
kind_and_place (faults.TooManyIntervals place) = Some (kinds.TooManyIntervals, place)
kind_and_place (faults.TooManyLinks place) = Some (kinds.TooManyLinks, place)
kind_and_place faults.Memory = None

-- the fault of the typed tags of a document; out of memory says nothing
abbrev pub HasReferenceFault : List PlainTyped → RefFault → Type 0
HasReferenceFault all fault = IfSome (kind_and_place fault) (λ (f : FaultKind × ℕ). ReferenceFaultAt all f.1 f.0)
