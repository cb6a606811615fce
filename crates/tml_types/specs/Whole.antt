-- The typed tags of a document, and its first fault.
use Rattle.std.specs.Prelude.{ℕ, Bool, true, false, List, [], ◌∷◌, Option, Some, None, IfSome}
use Rattle.std.specs.List.{All, AllZip, filter}
use Rattle.faults.specs.declared.kind.FaultKind.{FaultKind}
use Rattle.faults.specs.declared.kind.FaultKind.TheVariants as kinds
use Rattle.faults.specs.First.{FirstBrokenRule}
use Rattle.faults.specs.Kinds.{number_of}
use Rattle.tml_tree.specs.Plain.{PlainNode}
use Rattle.tml_tree.specs.Walking.{PlainTag, elements}
use Rattle.tml_tree.specs.Whole.{IsTreeOf}
use Rattle.tml_types.specs.declared.walk.TypeFault.{TypeFault}
use Rattle.tml_types.specs.declared.walk.TypeFault.TheVariants as faults
use Rattle.tml_types.specs.Content.{PlainTyped}
use Rattle.tml_types.specs.Rules.{AreSoundBefore, BreaksAfter, BreaksNoTagRule}
use Rattle.tml_types.specs.Table.{rows_at}
use Rattle.tml_types.specs.Typing.{TypedAs}

-- the root and the wrappers have no rows in the table, and no typed tag
abbrev pub has_rows : PlainTag → Bool
has_rows tag = elim (rows_at tag.name) [ [] ↦ false | row ∷ rows ↦ true ]

-- these are the typed tags of some tags, one after another
abbrev pub AreTyped : List PlainTag → List PlainTyped → Type 0
AreTyped tags typed = AllZip TypedAs (filter has_rows tags) typed

-- no tag breaks a rule, and these are their typed tags
pub record Types (tags : List PlainTag) (typed : List PlainTyped) : Type 0 where
  pub sound : All BreaksNoTagRule tags
  pub typed_tags : AreTyped tags typed

abbrev pub place_of : PlainTag → ℕ
place_of tag = tag.place

-- at a place stands the first tag that breaks a rule, and this is the first rule that it breaks
abbrev pub TagFaultAt : List PlainTag → ℕ → FaultKind → Type 0
TagFaultAt tags place kind = FirstBrokenRule BreaksAfter number_of place_of tags place kind

-- the kind and the place of a fault; out of memory has none
abbrev pub kind_and_place : TypeFault → Option (FaultKind × ℕ)
kind_and_place (faults.RepeatedAttribute place) = Some (kinds.RepeatedAttribute, place)
kind_and_place (faults.MissingAttribute place) = Some (kinds.MissingAttribute, place)
kind_and_place (faults.BadValue place) = Some (kinds.BadValue, place)
kind_and_place (faults.Conflict place) = Some (kinds.Conflict, place)
kind_and_place (faults.BadDate place) = Some (kinds.BadDate, place)
kind_and_place faults.Memory = None

-- the fault of some tags; out of memory says nothing
abbrev pub HasTagFault : List PlainTag → TypeFault → Type 0
HasTagFault tags fault = IfSome (kind_and_place fault) (λ (f : FaultKind × ℕ). TagFaultAt tags f.1 f.0)

-- this holds of the tags of the tree of a source, which there is
abbrev pub OfTree : List ℕ → (List PlainTag → Type 0) → Type 0
OfTree source Fact = (root : PlainNode) × IsTreeOf source root × Fact (elements root)

-- no tag before its place breaks a rule
abbrev pub IsAtLeastPlace : List PlainTag → TypeFault → Type 0
IsAtLeastPlace tags fault = IfSome (kind_and_place fault) (λ (f : FaultKind × ℕ). AreSoundBefore f.1 tags)
