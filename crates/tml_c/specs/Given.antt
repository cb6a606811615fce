-- The files of a call.
use Rattle.std.specs.Prelude.{ℕ, List, [], ◌∷◌, codes}
use Rattle.tml_io.specs.Files.{Files}

-- two files, by the names that words have for them
abbrev pub two_files : List ℕ → List ℕ → Files
two_files first second = (codes "first", first) ∷ (codes "second", second) ∷ []
