-- The words of a run: what they ask, and the rows that they have.
use Rattle.std.specs.Prelude.{ℕ, List, [], ◌∷◌, ◌++◌, codes, None, Some}
use Rattle.std.specs.declared.option.Option.{Option}
use Rattle.net_core.specs.Limits.{max_document, max_evidence}
use Rattle.runs.specs.Rows.{Rows}
use Rattle.runs.specs.Words.{usage_rows}
use Rattle.tml_verify.specs.Either.{either_rows}

abbrev pub usage : List ℕ
usage = codes "usage:\n" ++ codes "tml-verify DOC EVIDENCE\n" ++ codes "tml-verify DOC SECONDS\n"

-- two words name a document and the other file, and all other words have no form
abbrev pub asked_of : List (List ℕ) → Option (List ℕ × List ℕ)
asked_of (doc ∷ other ∷ []) = Some (doc, other)
asked_of words = None

-- how long the two files may be, and none without a form
abbrev pub limits_of : Option (List ℕ × List ℕ) → List ℕ
limits_of None = []
limits_of (Some asked) = max_document ∷ max_evidence ∷ []

-- the rows of two names, or of words that have no form
abbrev pub rows_of : Option (List ℕ × List ℕ) → Rows
rows_of None = usage_rows usage
rows_of (Some asked) = either_rows asked.0 asked.1
