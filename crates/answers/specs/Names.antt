-- Words that name intervals of a document.
use Rattle.std.specs.Prelude.{◌≡◌, ℕ, ◌<◌, List, length, map}
use Rattle.tml_refs.specs.Documents.{IsNamed, PlainDocument, PlainInterval, interval_name}

-- no interval has this name
abbrev pub NamesNone : PlainDocument → List ℕ → Type 0
NamesNone contents name = (i : ℕ) → IsNamed contents.intervals name i → ⊥

-- some interval has this name
abbrev pub NamesOne : PlainDocument → List ℕ → Type 0
NamesOne contents name = (i : ℕ) × IsNamed contents.intervals name i

-- these are the numbers of intervals of the document
abbrev pub AreOf : PlainDocument → ℕ → ℕ → Type 0
AreOf contents a b = (a < length contents.intervals) × (b < length contents.intervals)

-- names are those of intervals, in their order
abbrev pub AreNames : List PlainInterval → List (List ℕ) → Type 0
AreNames intervals names = names ≡ map interval_name intervals
