-- Serves the code: what the tags of a document ask for, but for the ends of its links.
use Rattle.std.specs.Prelude.{◌≡◌, ◌<◌, ℕ, true, false, List, ◌∷◌, ◌++◌, map}
use Rattle.std.specs.List.{All, Contains}
use Rattle.tml_types.specs.Content.{PlainTyped, Reference}
use Rattle.tml_types.specs.References.{reference}
use Rattle.tml_refs.specs.declared.asked.AskedReference.{AskedReference}
use Rattle.tml_refs.specs.declared.name_index.Entry.{Entry}
use Rattle.tml_refs.specs.NameIndex.{is_unlisted, other_references}

abbrev pub asked_reference : AskedReference → Reference
asked_reference a = reference a.kind a.name.now

abbrev pub IsAskedAt : ℕ → AskedReference → Type 0
IsAskedAt place a = a.place ≡ place

-- these references of a tag at a place are appended
abbrev pub Asks : ℕ → List Reference → List AskedReference → List AskedReference → Type 0
Asks place references old new =
    (more : List AskedReference) × (map asked_reference more ≡ references) × All (IsAskedAt place) more × (new ≡ old ++ more)

-- those of a tag are, but for the ends of a TLINK
abbrev pub AsksOf : PlainTyped → List AskedReference → List AskedReference → Type 0
AsksOf t old new = Asks t.place (other_references t.content) old new

-- a reference of a tag at a place
abbrev pub HasAsked : List AskedReference → ℕ → Reference → Type 0
HasAsked asked place r = (a : AskedReference) × Contains asked a × (a.place ≡ place) × (asked_reference a ≡ r)

-- it is one of some tag
abbrev pub IsAskedIn : List PlainTyped → AskedReference → Type 0
IsAskedIn tags a =
    (before after : List PlainTyped) × (tag : PlainTyped) × (tags ≡ before ++ tag ∷ after) × (tag.place ≡ a.place)
    × Contains (other_references tag.content) (asked_reference a)

-- These are the references of some tags, but for the ends of TLINKs.
pub record AreAsked (tags : List PlainTyped) (asked : List AskedReference) : Type 0 where
  pub each : (before after : List PlainTyped) (tag : PlainTyped)
      → tags ≡ before ++ tag ∷ after → All (HasAsked asked tag.place) (other_references tag.content)
  pub only : All (IsAskedIn tags) asked

-- none of the references of tags before this place is to no tag
abbrev pub NoneIsUnlisted : List Entry → List AskedReference → ℕ → Type 0
NoneIsUnlisted names asked place = All (λ (a : AskedReference). a.place < place → is_unlisted names (asked_reference a) ≡ false) asked

-- a reference of a tag at a place is to no tag
abbrev pub IsUnlistedAt : List Entry → List AskedReference → ℕ → Type 0
IsUnlistedAt names asked place = (a : AskedReference) × Contains asked a × (a.place ≡ place) × (is_unlisted names (asked_reference a) ≡ true)
