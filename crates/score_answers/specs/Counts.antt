-- Lines that say how many of some there are.
use Rattle.std.specs.Prelude.{ℕ, List, ◌++◌, codes, decimal}
use Rattle.answers.specs.Lines.{numbered}

-- a word, and how many of how many
abbrev pub of_line : List ℕ → ℕ → ℕ → List ℕ
of_line word part whole = word ++ decimal part ++ numbered (codes " of ") whole
