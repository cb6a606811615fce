-- The values of attributes.
use Rattle.std.specs.Prelude.{ℕ, Bool, true, false, ◌&&◌, ◌||◌, nat_le, List, [], ◌∷◌, length, codes, Option, Some, None, is_some, if◌then◌else◌}
use Rattle.std.specs.List.{list_all}
use Rattle.std.specs.Str.{bytes_eq}
use Rattle.named.specs.Texts.{named_of}
use Rattle.net_core.specs.Rels.{rel_text, all_rels}
use Rattle.timex_value.specs.Kinds.{kind_text, all_kinds, modifier_text, all_modifiers}
use Rattle.tml_span.specs.Bytes.{is_digit, is_from_to, is_in}
use Rattle.tml_span.specs.Units.{Attribute}
use Rattle.tml_types.specs.Listed as listed
use Rattle.tml_types.specs.Table as form

-- an ASCII letter, a digit, `_`, `-` or `.`
abbrev pub is_id_byte : ℕ → Bool
is_id_byte b = is_from_to (codes "AZ") b || is_from_to (codes "az") b || is_digit b || is_in (codes "_-.") b

-- an identifier has 1 to 64 bytes
abbrev pub is_id_len : ℕ → Bool
is_id_len n = nat_le 1 n && nat_le n 64

abbrev pub is_identifier : List ℕ → Bool
is_identifier text = is_id_len (length text) && list_all is_id_byte text

-- the text of a truth
abbrev pub truth_text : Bool → List ℕ
truth_text true = codes "true"
truth_text false = codes "false"

abbrev pub all_truths : List Bool
all_truths = true ∷ false ∷ []

-- some value of these has this text
abbrev pub is_named : {T : Type 0} → (T → List ℕ) → List T → List ℕ → Bool
is_named text_of all text = is_some (named_of text_of all text)

abbrev pub is_truth : List ℕ → Bool
is_truth text = is_named truth_text all_truths text

-- a text is of a form
abbrev pub is_of_form : form.ValueForm → List ℕ → Bool
is_of_form form.identifier text = is_identifier text
is_of_form form.any_text text = true
is_of_form form.truth text = is_truth text
is_of_form form.event_class text = is_named listed.class_text listed.all_classes text
is_of_form form.tense text = is_named listed.tense_text listed.all_tenses text
is_of_form form.aspect text = is_named listed.aspect_text listed.all_aspects text
is_of_form form.part_of_speech text = is_named listed.pos_text listed.all_pos text
is_of_form form.polarity text = is_named listed.polarity_text listed.all_polarities text
is_of_form form.timex_kind text = is_named kind_text all_kinds text
is_of_form form.modifier text = is_named modifier_text all_modifiers text
is_of_form form.doc_function text = is_named listed.function_text listed.all_functions text
is_of_form form.relation text = is_named rel_text all_rels text
is_of_form form.aspect_relation text = is_named listed.aspect_rel_text listed.all_aspect_rels text
is_of_form form.sub_relation text = is_named listed.sub_rel_text listed.all_sub_rels text

-- an empty value counts as absent
abbrev pub filled : List ℕ → Option (List ℕ)
filled [] = None
filled (b ∷ bs) = Some (b ∷ bs)

-- the value of the first attribute of a name
abbrev pub value_of : List ℕ → List Attribute → Option (List ℕ)
value_of name [] = None
value_of name (a ∷ attrs) = if bytes_eq a.name name then filled a.value else value_of name attrs
