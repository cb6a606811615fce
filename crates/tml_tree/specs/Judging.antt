-- Serves the code: the rules of units that are judged one after another.
use Rattle.std.specs.Prelude.{◌≡◌, ℕ, Bool, true, false, List, [], ◌∷◌, map, reverse, Option, Some, None, Result, Ok, Err, ⊤, if◌then◌else◌, IfSome}
use Rattle.std.specs.List.{filter, list_any}
use Rattle.faults.specs.First.{NoneBreaks}
use Rattle.faults.specs.declared.kind.FaultKind.{FaultKind}
use Rattle.faults.specs.declared.kind.FaultKind.TheVariants.{UnknownTag, Unbalanced, Misplaced, TooDeep}
use Rattle.tml_span.specs.Units.{Kind, bom, declaration, doctype, comment, text, start_tag, end_tag, empty_tag, PlainUnit}
use Rattle.tml_tree.specs.declared.tag_name.TagName.{TagName}
use Rattle.tml_tree.specs.declared.whole.TreeFault.{TreeFault}
use Rattle.tml_tree.specs.TagNames.{text_of, is_link}
use Rattle.tml_tree.specs.Plain.{PlainNode}
use Rattle.tml_tree.specs.Nesting.{OpenTag, LeavesOpen, open_name, is_content, is_seen}
use Rattle.tml_tree.specs.Rules.{is_past_bom, is_tag, is_doctype, is_nil, is_unknown_tag, is_unbalanced, is_misplaced, is_too_deep, History}
use Rattle.tml_tree.specs.Trees.{BreaksUnitRule}
use Rattle.tml_tree.specs.Roots.{AtMostOne}
use Rattle.tml_tree.specs.Whole.{kind_and_place}

-- the first fault of a unit
abbrev pub first_fault : History → Kind → Option FaultKind
first_fault h kind = if is_unknown_tag kind then Some UnknownTag else if is_unbalanced h kind then Some Unbalanced else if is_misplaced h kind then Some Misplaced else if is_too_deep h kind then Some TooDeep else None

-- what is known before the first unit
abbrev pub no_history : History
no_history = record { begun = false; tagged = false; doctyped = false; names = []; seen = false }

-- after a tag; where no tag is open then, the root was seen whole
abbrev pub tagged_with : History → List (List ℕ) → Bool → History
tagged_with h names seen = record { begun = true; tagged = true; doctyped = h.doctyped; names = names; seen = seen }

-- the names without the innermost
abbrev pub outer_names : List (List ℕ) → List (List ℕ)
outer_names [] = []
outer_names (n ∷ ns) = ns

-- what is known after one more unit
abbrev pub after : History → Kind → History
after h bom = h
after h (declaration bytes) = record { begun = true; tagged = h.tagged; doctyped = h.doctyped; names = h.names; seen = h.seen }
after h (doctype bytes) = record { begun = true; tagged = h.tagged; doctyped = true; names = h.names; seen = h.seen }
after h (comment bytes) = record { begun = true; tagged = h.tagged; doctyped = h.doctyped; names = h.names; seen = h.seen }
after h (text bytes) = record { begun = true; tagged = h.tagged; doctyped = h.doctyped; names = h.names; seen = h.seen }
after h (start_tag name attrs) = tagged_with h (name ∷ h.names) false
after h (end_tag name) = tagged_with h (outer_names h.names) (is_nil (outer_names h.names))
after h (empty_tag name attrs) = tagged_with h h.names (is_nil h.names)

-- the unit has no fault, and this is known after it
abbrev pub Passes : History → Kind → History → Type 0
Passes old kind new = (first_fault old kind ≡ None) × (new ≡ after old kind)

-- why a unit at a place does not pass: its first fault
abbrev pub Refuses : History → Kind → ℕ → TreeFault → Type 0
Refuses h kind place fault = IfSome (kind_and_place fault) (λ f. (first_fault h kind ≡ Some f.0) × (f.1 ≡ place))

-- the tag of this name, where a start tag of this name at a place has no fault, or else its first one
abbrev pub MayStartTag : History → ℕ → List ℕ → Result TagName TreeFault → Type 0
MayStartTag h place name (Ok tag) = (first_fault h (start_tag name []) ≡ None) × (text_of tag ≡ name)
MayStartTag h place name (Err fault) = Refuses h (start_tag name []) place fault

-- of tags, the innermost last, the names, the innermost first
abbrev pub names_in : List TagName → List (List ℕ)
names_in tags = map text_of (reverse tags)

-- of these open names, the innermost first, those that follow the first are no link tags
abbrev pub OnlyInnermost : List (List ℕ) → Type 0
OnlyInnermost [] = ⊤
OnlyInnermost (n ∷ ns) = list_any is_link ns ≡ false

-- No unit breaks a rule. They make these nodes after the start of the innermost of these open tags, and this is known of them.
pub record HavePassed (us : List PlainUnit) (tags : List OpenTag) (nodes : List PlainNode) (h : History) : Type 0 where
  pub opens : LeavesOpen (filter is_content us) tags nodes
  pub lawful : NoneBreaks BreaksUnitRule us
  pub begun : h.begun ≡ list_any is_past_bom us
  pub tagged : h.tagged ≡ list_any is_tag us
  pub doctyped : h.doctyped ≡ list_any is_doctype us
  pub names : h.names ≡ map open_name tags
  pub seen : h.seen ≡ is_seen tags nodes
  pub single : AtMostOne tags nodes
