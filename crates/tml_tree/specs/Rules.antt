-- The rules of a unit, given the units before it.
use Rattle.std.specs.Prelude.{ℕ, Bool, true, false, ◌&&◌, ◌||◌, not, nat_le, List, [], ◌∷◌, length}
use Rattle.std.specs.List.{list_any, list_all}
use Rattle.std.specs.Str.{bytes_eq}
use Rattle.faults.specs.declared.kind.FaultKind.{FaultKind}
use Rattle.faults.specs.declared.kind.FaultKind.TheVariants as fault
use Rattle.tml_span.specs.Bytes.{is_white}
use Rattle.tml_span.specs.Units.{Kind, bom, declaration, doctype, text, start_tag, end_tag, empty_tag, PlainUnit}
use Rattle.tml_tree.specs.TagNames.{is_known, is_link, is_root}

abbrev pub is_nil : List (List ℕ) → Bool
is_nil [] = true
is_nil (n ∷ ns) = false

abbrev pub is_innermost : List ℕ → List (List ℕ) → Bool
is_innermost name [] = false
is_innermost name (n ∷ ns) = bytes_eq n name

abbrev pub is_tag : PlainUnit → Bool
is_tag u = elim u.kind [ start_tag n a ↦ true | empty_tag n a ↦ true | end_tag n ↦ true | _ ↦ false ]

abbrev pub is_doctype : PlainUnit → Bool
is_doctype u = elim u.kind [ doctype b ↦ true | _ ↦ false ]

abbrev pub is_bom : PlainUnit → Bool
is_bom u = elim u.kind [ bom ↦ true | _ ↦ false ]

-- any unit but a Bom
abbrev pub is_past_bom : PlainUnit → Bool
is_past_bom u = not (is_bom u)

-- what the rules ask about the units before: whether one but a Bom is there, a tag, a doctype; the names of the open tags, the innermost first; whether the root was seen whole
pub record History : Type 0 where
  pub begun : Bool
  pub tagged : Bool
  pub doctyped : Bool
  pub names : List (List ℕ)
  pub seen : Bool

abbrev pub history_of : List PlainUnit → List (List ℕ) → Bool → History
history_of before names seen = record { begun = list_any is_past_bom before; tagged = list_any is_tag before; doctyped = list_any is_doctype before; names = names; seen = seen }

-- a start or empty tag whose name is not known
abbrev pub is_unknown_tag : Kind → Bool
is_unknown_tag (start_tag name attrs) = not (is_known name)
is_unknown_tag (empty_tag name attrs) = not (is_known name)
is_unknown_tag kind = false

-- an end tag whose name is not that of the innermost open tag
abbrev pub is_unbalanced : History → Kind → Bool
is_unbalanced h (end_tag name) = not (is_innermost name h.names)
is_unbalanced h kind = false

-- a text other than white space, outside the root or inside a link tag
abbrev pub is_misplaced_text : History → List ℕ → Bool
is_misplaced_text h bytes = not (list_all is_white bytes) && (is_nil h.names || list_any is_link h.names)

-- a tag inside a link tag, a first tag other than TimeML, any tag after the root, and TimeML where a tag is open
abbrev pub is_misplaced_tag : History → List ℕ → Bool
is_misplaced_tag h name = list_any is_link h.names || not h.tagged && not (is_root name) || h.seen || not (is_nil h.names) && is_root name

-- a declaration that follows anything but a Bom, a doctype that follows a tag or a doctype, or such a text or tag
abbrev pub is_misplaced : History → Kind → Bool
is_misplaced h (declaration bytes) = h.begun
is_misplaced h (doctype bytes) = h.tagged || h.doctyped
is_misplaced h (text bytes) = is_misplaced_text h bytes
is_misplaced h (start_tag name attrs) = is_misplaced_tag h name
is_misplaced h (empty_tag name attrs) = is_misplaced_tag h name
is_misplaced h kind = false

-- a start or empty tag where 32 tags are open
abbrev pub is_too_deep : History → Kind → Bool
is_too_deep h (start_tag name attrs) = nat_le 32 (length h.names)
is_too_deep h (empty_tag name attrs) = nat_le 32 (length h.names)
is_too_deep h kind = false

-- a unit is at fault in this way; the other kinds of fault are not those of a unit
abbrev pub is_at_fault : FaultKind → History → Kind → Bool
is_at_fault fault.UnknownTag h kind = is_unknown_tag kind
is_at_fault fault.Unbalanced h kind = is_unbalanced h kind
is_at_fault fault.Misplaced h kind = is_misplaced h kind
is_at_fault fault.TooDeep h kind = is_too_deep h kind
is_at_fault other h kind = false
