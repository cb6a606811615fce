-- How far a reader of tags has come, and what it gives.
use Rattle.std.specs.Prelude.{◌≡◌, ◌<◌, ◌-◌, ◌&&◌, ℕ, Bool, false, List, [], ◌∷◌, ◌++◌, length, map, Option, Some, None, Result, Ok, Err, ⊤}
use Rattle.std.specs.List.{All}
use Rattle.std.specs.Option.{option_to_list}
use Rattle.faults.specs.declared.kind.FaultKind.{FaultKind}
use Rattle.tml_span.specs.Cutter.{HasCut}
use Rattle.tml_span.specs.Faults.{HasCutFault, cut_kind_and_place}
use Rattle.tml_span.specs.Units.{PlainUnit}
use Rattle.tml_span.specs.declared.unit.Unit.{Unit}
use Rattle.tml_span.specs.View.{unit_of}
use Rattle.tml_span.specs.Whole.{IsWhole}
use Rattle.tml_tree.specs.declared.whole.TreeFault.{TreeFault}
use Rattle.tml_tree.specs.declared.whole.TreeFault.TheVariants as tree
use Rattle.tml_tree.specs.Judging.{HavePassed, Passes, no_history}
use Rattle.tml_tree.specs.Nesting.{OpenTag}
use Rattle.tml_tree.specs.Plain.{PlainNode}
use Rattle.tml_tree.specs.Rules.{History, is_nil}
use Rattle.tml_tree.specs.Trees.{Document}
use Rattle.tml_tree.specs.Walking.{PlainTag, elements, tags_of}
use Rattle.tml_tree.specs.Whole.{HasTreeFault, kind_and_place as tree_kind_and_place}
use Rattle.tml_types.specs.declared.tag_reader.Begun.{Begun}
use Rattle.tml_types.specs.declared.tag_reader.SourceFault.{SourceFault}
use Rattle.tml_types.specs.declared.tag_reader.SourceFault.TheVariants.{Cut, Tree, Tag}
use Rattle.tml_types.specs.declared.tag_reader.TagReader.{TagReader}
use Rattle.tml_types.specs.declared.typed.TypedTag.{TypedTag}
use Rattle.tml_types.specs.declared.walk.TypeFault.{TypeFault}
use Rattle.tml_types.specs.Content.{PlainTyped}
use Rattle.tml_types.specs.Places.{HaveRisingPlaces, IsPlaceSmall}
use Rattle.tml_types.specs.Reading.{attrs_of}
use Rattle.tml_types.specs.View.{typed_of}
use Rattle.tml_types.specs.Walking.{tag_at}
use Rattle.tml_types.specs.Whole.{HasTagFault, OfTree, Types, kind_and_place}

-- the kind and the place of a fault; out of memory has none
abbrev pub source_kind_and_place : SourceFault → Option (FaultKind × ℕ)
source_kind_and_place (Cut cut) = cut_kind_and_place cut
source_kind_and_place (Tree fault) = tree_kind_and_place fault
source_kind_and_place (Tag fault) = kind_and_place fault

-- the fault of a source: that of its cut, or where it has none that of its units, or where they make a tree that of the tags of the tree
abbrev pub HasSourceFault : List ℕ → SourceFault → Type 0
HasSourceFault source (Cut cut) = HasCutFault source cut
HasSourceFault source (Tree fault) = HasTreeFault source fault
HasSourceFault source (Tag fault) = OfTree source (λ tags. HasTagFault tags fault)

-- the tag that a unit begins
abbrev pub begun_tag : Begun → PlainTag
begun_tag b = tag_at b.of.place b.name (attrs_of b.of)

-- A reader of this source has given these of its units, none of them breaks a rule, and this is known of the tags that they begin.
pub record HasReadUnits (source : List ℕ) (us : List PlainUnit) (Known : List PlainTag → Type 0) (r : TagReader) : Type 0 where
  pub source_is : r.units.source ≡ source
  pub cut : HasCut r.units us
  pub open_tags : List OpenTag
  pub nodes : List PlainNode
  pub passed : HavePassed us open_tags nodes r.nesting
  pub known : Known (tags_of us)

-- no tag breaks a rule, and these are their typed tags
abbrev pub AreTypedSo : List PlainTyped → List PlainTag → Type 0
AreTypedSo typed tags = Types tags typed × All IsPlaceSmall typed

-- a reader of this source has given these units, which begin these typed tags
abbrev pub HasJudged : List ℕ → List PlainUnit → List PlainTyped → TagReader → Type 0
HasJudged source us typed r = HasReadUnits source us (AreTypedSo typed) r

-- a reader of this source has given no unit
abbrev pub BeginsJudging : List ℕ → TagReader → Type 0
BeginsJudging source r = HasJudged source [] [] r × (r.nesting ≡ no_history)

-- a reader of this source has given these typed tags
abbrev pub HasGiven : List ℕ → List PlainTyped → TagReader → Type 0
HasGiven source typed r = (us : List PlainUnit) × HasJudged source us typed r

-- What a pull gives: one typed tag more, whose place is above those before it, or none where all tags of the tree were given, or the fault of the source.
abbrev pub GivesTag : TagReader → TagReader → Result (Option TypedTag) SourceFault → Type 0
GivesTag old new (Ok (Some t)) = (source : List ℕ) (typed : List PlainTyped) → HasGiven source typed old → HasGiven source (typed ++ typed_of t ∷ []) new × HaveRisingPlaces (typed ++ typed_of t ∷ [])
GivesTag old new (Ok None) = (source : List ℕ) (typed : List PlainTyped) → HasGiven source typed old → OfTree source (λ tags. Types tags typed)
GivesTag old new (Err fault) = (source : List ℕ) (typed : List PlainTyped) → HasGiven source typed old → HasSourceFault source fault

-- these are all units of a source, they make a tree, and this holds of its tags
abbrev pub OfUnits : List ℕ → List PlainUnit → (List PlainTag → Type 0) → Type 0
OfUnits source us Fact = (root : PlainNode) × IsWhole (record { source = source; units = us }) × Document root us × Fact (elements root)

-- the typed tags and that of one more unit, if it begins one
abbrev pub typed_with : List PlainTyped → Option TypedTag → List PlainTyped
typed_with typed tag = typed ++ map typed_of (option_to_list tag)

-- What a pull of a unit gives: one more, which has no fault, with its typed tag, or none where all units were given and make a tree, or the fault of the source.
abbrev pub GivesJudged : TagReader → TagReader → Option TypedTag → Result (Option Unit) SourceFault → Type 0
GivesJudged old new tag (Ok (Some unit)) = Passes old.nesting (unit_of unit).kind new.nesting
    × ((source : List ℕ) (us : List PlainUnit) (typed : List PlainTyped) → HasJudged source us typed old
    → HasJudged source (us ++ unit_of unit ∷ []) (typed_with typed tag) new × HaveRisingPlaces (typed_with typed tag))
GivesJudged old new tag (Ok None) = (source : List ℕ) (us : List PlainUnit) (typed : List PlainTyped) → HasJudged source us typed old → OfUnits source us (λ tags. Types tags typed)
GivesJudged old new tag (Err fault) = (source : List ℕ) (us : List PlainUnit) (typed : List PlainTyped) → HasJudged source us typed old → HasSourceFault source fault

-- no tag is open, and the root was seen whole
abbrev pub is_complete : History → Bool
is_complete h = is_nil h.names && h.seen

-- no unit is left, and the root is not closed
abbrev pub IsUnclosed : TagReader → TreeFault → Type 0
IsUnclosed r fault = (fault ≡ tree.Unclosed r.units.place) × (is_complete r.nesting ≡ false)

-- the fault of a source of which the first tag at fault is known
abbrev pub FaultsWith : TagReader → TypeFault → SourceFault → Type 0
FaultsWith r known fault = (source : List ℕ) (us : List PlainUnit) → HasReadUnits source us (λ tags. HasTagFault tags known) r → HasSourceFault source fault

-- how many bytes are left to a reader
abbrev pub bytes_left : TagReader → ℕ
bytes_left r = length r.units.source - r.units.place

-- where a tag or a unit is given fewer bytes are left
abbrev pub MovesOn : {T : Type 0} → TagReader → TagReader → Result (Option T) SourceFault → Type 0
MovesOn old new (Ok (Some given)) = bytes_left new < bytes_left old
MovesOn old new other = ⊤
