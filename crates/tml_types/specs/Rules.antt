-- The rules of attributes.
use Rattle.std.specs.Prelude.{◌≡◌, ◌<◌, ℕ, Bool, true, false, ◌&&◌, ◌||◌, not, List, [], ◌∷◌, codes, Option, Some, None}
use Rattle.std.specs.List.{All, list_any}
use Rattle.std.specs.Str.{bytes_eq}
use Rattle.faults.specs.declared.kind.FaultKind.{FaultKind}
use Rattle.faults.specs.declared.kind.FaultKind.TheVariants.{RepeatedAttribute, MissingAttribute, BadValue, Conflict, BadDate}
use Rattle.timex_value.specs.Filling.{NoFilling}
use Rattle.tml_span.specs.Units.{Attribute}
use Rattle.tml_tree.specs.Walking.{PlainTag}
use Rattle.tml_types.specs.Table.{Row, required, optional, one_of, rows_at}
use Rattle.tml_types.specs.Values.{is_of_form, value_of}

-- an attribute of this name is among these
abbrev pub has_name : List ℕ → List Attribute → Bool
has_name name attrs = list_any (λ (a : Attribute). bytes_eq a.name name) attrs

-- two attributes have one name
abbrev pub is_repeated : List Attribute → Bool
is_repeated [] = false
is_repeated (a ∷ attrs) = has_name a.name attrs || is_repeated attrs

abbrev pub is_absent : Option (List ℕ) → Bool
is_absent None = true
is_absent (Some text) = false

-- a value is there and fails a test
abbrev pub is_unfit : (List ℕ → Bool) → Option (List ℕ) → Bool
is_unfit test None = false
is_unfit test (Some text) = not (test text)

-- by a row of the table, what is absent of a tag that has to be there
abbrev pub is_missing : List Attribute → Row → Bool
is_missing attrs (required name form) = is_absent (value_of name attrs)
is_missing attrs (optional name form) = false
is_missing attrs (one_of name other form) = is_absent (value_of name attrs) && is_absent (value_of other attrs)

-- a value is there that is not of its form
abbrev pub is_bad : List Attribute → Row → Bool
is_bad attrs (required name form) = is_unfit (is_of_form form) (value_of name attrs)
is_bad attrs (optional name form) = is_unfit (is_of_form form) (value_of name attrs)
is_bad attrs (one_of name other form) = is_unfit (is_of_form form) (value_of name attrs) || is_unfit (is_of_form form) (value_of other attrs)

-- both of a pair are there
abbrev pub is_conflict : List Attribute → Row → Bool
is_conflict attrs (required name form) = false
is_conflict attrs (optional name form) = false
is_conflict attrs (one_of name other form) = not (is_absent (value_of name attrs)) && not (is_absent (value_of other attrs))

-- a value is there, has the form of a calendar value and is no date of the calendar
abbrev pub IsNoDate : Option (List ℕ) → Type 0
IsNoDate None = ⊥
IsNoDate (Some text) = NoFilling text

-- a tag breaks a rule of attributes
abbrev pub BreaksTagRule : FaultKind → PlainTag → Type 0
BreaksTagRule RepeatedAttribute tag = is_repeated tag.attrs ≡ true
BreaksTagRule MissingAttribute tag = list_any (is_missing tag.attrs) (rows_at tag.name) ≡ true
BreaksTagRule BadValue tag = list_any (is_bad tag.attrs) (rows_at tag.name) ≡ true
BreaksTagRule Conflict tag = list_any (is_conflict tag.attrs) (rows_at tag.name) ≡ true
BreaksTagRule BadDate tag = (tag.name ≡ codes "TIMEX3") × IsNoDate (value_of (codes "value") tag.attrs)
BreaksTagRule other tag = ⊥

-- a tag breaks none of them
abbrev pub BreaksNoTagRule : PlainTag → Type 0
BreaksNoTagRule tag = (kind : FaultKind) → BreaksTagRule kind tag → ⊥

-- the same where the tags before it are given, which matter to no rule of attributes
abbrev pub BreaksAfter : FaultKind → List PlainTag → PlainTag → Type 0
BreaksAfter kind before tag = BreaksTagRule kind tag

-- no tag that begins before this place breaks a rule
abbrev pub AreSoundBefore : ℕ → List PlainTag → Type 0
AreSoundBefore place tags = All (λ (tag : PlainTag). tag.place < place → BreaksNoTagRule tag) tags
