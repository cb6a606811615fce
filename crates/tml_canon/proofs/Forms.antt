-- Quoting changes no value that has to be of a form, and makes none be of another one.
use Rattle.std.proofs.Common.{◌≡◌, not, ℕ, Bool, true, false, List, refl, sym, ap, subst, Option, Some, None, option_map, rules}
use Rattle.std.specs.List.{list_all}
use Rattle.std.proofs.lemmas.Bool.Decides.{same_from_decides}
use Rattle.std.proofs.lemmas.Bool.{and_parts, not-false}
use Rattle.net_core.specs.Rels.{all_rels, rel_text}
use Rattle.timex_value.specs.Kinds.{all_kinds, all_modifiers, kind_text, modifier_text}
use Rattle.tml_types.specs.Listed as listed
use Rattle.tml_types.specs.Rules.{is_absent, is_unfit}
use Rattle.tml_types.specs.Table as form
use Rattle.tml_types.specs.Table.{ValueForm}
use Rattle.tml_types.specs.Values.{all_truths, is_id_byte, is_of_form, truth_text}
use Rattle.tml_canon.specs.Canonical.{quoted}
use Rattle.tml_canon.proofs.Unchanged.{are_from_dash, identifier_from_dash, named_from_dash, unchanged, unchanged_before}

-- any text will do
abbrev pub is_any : ValueForm → Bool
is_any form.any_text = true
is_any other = false

-- a value of any other form has no `"`
form_from_dash : (f : ValueForm) (text : List ℕ) → is_any f ≡ false → is_of_form f text ≡ true → are_from_dash text ≡ true
form_from_dash form.identifier text n h = identifier_from_dash text (and_parts _ (list_all is_id_byte text) h).1
form_from_dash form.any_text text n h = absurd (cc n)
form_from_dash form.truth text n h = named_from_dash truth_text all_truths (λ v. search rules) text h
form_from_dash form.event_class text n h = named_from_dash listed.class_text listed.all_classes (λ v. search rules) text h
form_from_dash form.tense text n h = named_from_dash listed.tense_text listed.all_tenses (λ v. search rules) text h
form_from_dash form.aspect text n h = named_from_dash listed.aspect_text listed.all_aspects (λ v. search rules) text h
form_from_dash form.part_of_speech text n h = named_from_dash listed.pos_text listed.all_pos (λ v. search rules) text h
form_from_dash form.polarity text n h = named_from_dash listed.polarity_text listed.all_polarities (λ v. search rules) text h
form_from_dash form.timex_kind text n h = named_from_dash kind_text all_kinds (λ v. search rules) text h
form_from_dash form.modifier text n h = named_from_dash modifier_text all_modifiers (λ v. search rules) text h
form_from_dash form.doc_function text n h = named_from_dash listed.function_text listed.all_functions (λ v. search rules) text h
form_from_dash form.relation text n h = named_from_dash rel_text all_rels (λ v. search rules) text h
form_from_dash form.aspect_relation text n h = named_from_dash listed.aspect_rel_text listed.all_aspect_rels (λ v. search rules) text h
form_from_dash form.sub_relation text n h = named_from_dash listed.sub_rel_text listed.all_sub_rels (λ v. search rules) text h

-- a quoted text is of a form where the text is, but where any text will do
one_form : (f : ValueForm) (text : List ℕ) → is_any f ≡ false → is_of_form f (quoted text) ≡ is_of_form f text
one_form f text n = same_from_decides (is_of_form f (quoted text)) (is_of_form f text) (
  λ h. subst (λ (t : List ℕ). is_of_form f t ≡ true) (unchanged_before text (form_from_dash f (quoted text) n h)) h,
  λ h. subst (λ (t : List ℕ). is_of_form f t ≡ true) (sym (unchanged text (form_from_dash f text n h))) h,
) (λ e. e, λ e. e)

-- the same of all forms
form_quoted : (f : ValueForm) (text : List ℕ) → is_of_form f (quoted text) ≡ is_of_form f text
form_quoted form.any_text text = refl
form_quoted f text = one_form f text refl

-- a value fails its test when it is quoted where it fails it
pub unfit_quoted : (f : ValueForm) (o : Option (List ℕ)) → is_unfit (is_of_form f) (option_map quoted o) ≡ is_unfit (is_of_form f) o
unfit_quoted f None = refl
unfit_quoted f (Some text) = ap not (form_quoted f text)

-- it is absent when it is quoted where it is absent
pub absent_quoted : (o : Option (List ℕ)) → is_absent (option_map quoted o) ≡ is_absent o
absent_quoted None = refl
absent_quoted (Some text) = refl

-- and a value that passes its test stays what it is, but where any text passes
pub fit_unchanged : (f : ValueForm) (o : Option (List ℕ)) → is_any f ≡ false → is_unfit (is_of_form f) o ≡ false → option_map quoted o ≡ o
fit_unchanged f None n h = refl
fit_unchanged f (Some text) n h = ap (λ (t : List ℕ). Some t) (unchanged text (form_from_dash f text n (not-false (is_of_form f text) h)))
