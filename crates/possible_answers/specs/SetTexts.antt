-- Serves the code: texts of sets of base relations that are kept.
use Rattle.std.specs.Prelude.{◌≡◌, ℕ, ◌-◌, ◌<◌, ◌≤◌, List, length, slice_index_or, take, drop}
use Rattle.possible_answers.specs.Matrix.{words_of}
use Rattle.possible_answers.specs.declared.set_texts.Place.{Place}
use Rattle.tml_possible.specs.Sets.{has}

abbrev pub place_at : List Place → ℕ → Place
place_at places k = slice_index_or places k (record { start = 0; end = 0 })

-- the bytes from the start of a place to its end
abbrev pub part : List ℕ → Place → List ℕ
part bytes place = take (place.end - place.start) (drop place.start bytes)

-- a place is within the bytes, and where it is not empty the words of the set of this number stand there
pub record HasSetText (bytes : List ℕ) (place : Place) (k : ℕ) : Type 0 where
  pub order : place.start ≤ place.end
  pub within : place.end ≤ length bytes
  pub words : place.start < place.end → part bytes place ≡ words_of (has (record { bits = k }))

-- there is a place for each set
pub record AreTexts (bytes : List ℕ) (places : List Place) : Type 0 where
  pub size : length places ≡ 8192
  pub placed : (k : ℕ) → k < 8192 → HasSetText bytes (place_at places k) k
