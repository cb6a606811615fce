-- What some words ask.
use Rattle.std.proofs.Common.{◌≡◌, ◌≢◌, ℕ, List, [], ◌∷◌, get_or, length, refl, sym, subst, Option, None, Some, String, Global, string_bytes, arith}
use Rattle.tml_io.specs.Known.{KnownInputs}
use Rattle.runs.specs.Replied.{IsReplyTo}
use Rattle.runs.specs.Words.{texts_of}
use Rattle.runs.specs.declared.status.Status.{Status}
use Rattle.tml_verify.specs.Words.{asked_of, limits_of, rows_of}

-- two words are the names of a document and another file
pub two_words : (words : List (String Global)) (doc other : String Global) → length words ≡ 2 → doc ≡ get_or words 0 doc → other ≡ get_or words 1 other
    → asked_of (texts_of words) ≡ Some (string_bytes doc, string_bytes other)
two_words (a ∷ b ∷ []) doc other count first second = cc
two_words [] doc other count first second = absurd (omega (arith, count))
two_words (a ∷ []) doc other count first second = absurd (omega (arith, count))
two_words (a ∷ b ∷ c ∷ more) doc other count first second = absurd (omega (arith, count))

-- other words have no form
pub no_form : (words : List (String Global)) → length words ≢ 2 → asked_of (texts_of words) ≡ None
no_form [] count = refl
no_form (a ∷ []) count = refl
no_form (a ∷ b ∷ []) count = absurd (count refl)
no_form (a ∷ b ∷ c ∷ more) count = refl

-- a reply belongs to the rows of what some words ask
pub along : {S : Type 0} (known : S → KnownInputs) (asked other : Option (List ℕ × List ℕ)) (old new : S) (status : Status) (text : List ℕ) → asked ≡ other
    → IsReplyTo known (rows_of other) (limits_of other) old new status text → IsReplyTo known (rows_of asked) (limits_of asked) old new status text
along known asked other old new status text e h = subst (λ (a : Option (List ℕ × List ℕ)). IsReplyTo known (rows_of a) (limits_of a) old new status text) (sym e) h
