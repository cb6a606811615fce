-- The words of a run: as bytes, and if they have no form. Nothing here knows what forms there are.
use Rattle.std.specs.Prelude.{◌≡◌, ℕ, List, [], map, String, string_bytes}
use Rattle.std.specs.declared.alloc.Global.{Global}
use Rattle.runs.specs.Rows.{Rows, answers}
use Rattle.runs.specs.declared.status.Status.TheVariants.{Usage}

-- the words as bytes
abbrev pub texts_of : List (String Global) → List (List ℕ)
texts_of words = map (λ (w : String Global). string_bytes w) words

-- words that have no form are answered by the usage text
abbrev pub usage_rows : List ℕ → Rows
usage_rows usage [] (answers Usage text) = text ≡ usage
usage_rows usage contents next = ⊥
