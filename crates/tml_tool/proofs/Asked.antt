-- The form that some words have, by its word and by how many arguments there are.
use Rattle.std.proofs.Common.{◌≡◌, ◌≢◌, inl, inr, ℕ, ◌+◌, ◌==◌, List, [], ◌∷◌, length, true, false, refl, sym, ap, subst, ◌∙◌, Option, Some, None, Bool, String, Global, string_bytes, arith}
use Rattle.std.specs.Prelude.{codes, if◌then◌else◌}
use native.Mathlib.Numerals.{unary_clauses}
use Rattle.std.proofs.lemmas.Bool.{eq-eqb}
use Rattle.std.proofs.lemmas.Bool.Decides.{eqb_tells}
use Rattle.std.proofs.lemmas.List.{length-map}
use Rattle.named.specs.Texts.{named_of}
use Rattle.answers.specs.Commands.{after_first, argument}
use Rattle.tml_io.specs.Known.{KnownInputs}
use Rattle.runs.specs.declared.status.Status.{Status}
use Rattle.runs.specs.declared.status.Status.TheVariants.{Usage}
use Rattle.runs.specs.Replied.{IsReplyTo}
use Rattle.runs.specs.Words.{texts_of}
use Rattle.runs.proofs.Usage.{usage_replied as replied_usage}
use Rattle.tml_tool.specs.declared.commands.Form.{Form}
use Rattle.tml_tool.specs.declared.commands.Form.TheVariants.{Spans}
use Rattle.tml_tool.specs.Commands.{all_forms, arguments_of, command_of, form_of, limits_of, rows_of, taken_form, usage, word_of}
use Rattle.tml_tool.specs.Forms.{with_arguments}

-- the arguments after the first are the next ones of all
pub next_argument : (given : List (List ℕ)) (k : ℕ) → argument (after_first given) k ≡ argument given (k + 1)
next_argument [] k = refl
next_argument (first ∷ more) k = simp unary_clauses refl

pub by_test : (b : Bool) (asked : Option (Form × List (List ℕ))) → b ≡ true → (if b then asked else None) ≡ asked
by_test b asked e = ap (λ (t : Bool). if t then asked else None) e

pub by_no_test : (b : Bool) (asked : Option (Form × List (List ℕ))) → b ≢ true → (if b then asked else None) ≡ None
by_no_test true asked n = absurd (n refl)
by_no_test false asked n = refl

no_true : (a b : ℕ) → a ≢ b → a == b ≢ true
no_true a b n = elim (eqb_tells a b) [ inl h ↦ absurd (n h.1) | inr h ↦ λ e. cc (sym e ∙ h.0) ]

pub no_words : (words : List (String Global)) → length words ≡ 0 → form_of (texts_of words) ≡ Some (Spans, codes "-" ∷ [])
no_words [] e = refl
no_words (w ∷ ws) e = absurd (omega (arith, e))

module _ (words arguments : List (String Global)) (word : String Global) (bytes : List ℕ) (are : words ≡ word ∷ arguments) (is : bytes ≡ string_bytes word) where
  is_form : (found : Option Form) → found ≡ named_of word_of all_forms bytes → form_of (texts_of words) ≡ with_arguments arguments_of (λ f. (command_of f).takes) (texts_of arguments) found
  is_form found e = ap (λ (w : List (String Global)). form_of (texts_of w)) are ∙ ap (λ (b : List ℕ). form_of (b ∷ texts_of arguments)) (sym is) ∙ ap (with_arguments arguments_of (λ f. (command_of f).takes) (texts_of arguments)) (sym e)

  pub no_word : None ≡ named_of word_of all_forms bytes → form_of (texts_of words) ≡ None
  no_word e = is_form None e

  count : length (texts_of arguments) ≡ length arguments
  count = length-map arguments (λ (w : String Global). string_bytes w)

  pub is_asked : (form : Form) → Some form ≡ named_of word_of all_forms bytes → length arguments ≡ length (arguments_of form) → form_of (texts_of words) ≡ taken_form form (texts_of arguments)
  is_asked form e n = is_form (Some form) e ∙ by_test (length (texts_of arguments) == length (arguments_of form)) (taken_form form (texts_of arguments)) (eq-eqb _ _ (count ∙ n))

  pub no_count : (form : Form) → Some form ≡ named_of word_of all_forms bytes → length arguments ≢ length (arguments_of form) → form_of (texts_of words) ≡ None
  no_count form e n = is_form (Some form) e ∙ by_no_test (length (texts_of arguments) == length (arguments_of form)) (taken_form form (texts_of arguments)) (no_true _ _ (λ same. n (sym count ∙ same)))

module _ {S : Type 0} (known : S → KnownInputs) where
  -- a reply belongs to the rows of the form that some words have
  pub along : (form other : Option (Form × List (List ℕ))) (old new : S) (status : Status) (text : List ℕ) → form ≡ other
      → IsReplyTo known (rows_of other) (limits_of other) old new status text → IsReplyTo known (rows_of form) (limits_of form) old new status text
  along form other old new status text e h = subst (λ (f : Option (Form × List (List ℕ))). IsReplyTo known (rows_of f) (limits_of f) old new status text) (sym e) h

  pub usage_replied : (form : Option (Form × List (List ℕ))) (now : S) (text : List ℕ) → form ≡ None → text ≡ usage → IsReplyTo known (rows_of form) (limits_of form) now now Usage text
  usage_replied form now text e is = along form None now now Usage text e (replied_usage usage known now text is)
