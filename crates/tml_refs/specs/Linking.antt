-- Serves the code: links by the identifiers of their ends, and by the numbers of these.
use Rattle.std.specs.Prelude.{◌≡◌, ◌<◌, ℕ, Bool, true, false, List}
use Rattle.std.specs.List.{All, AllZip, Contains}
use Rattle.tml_types.specs.Content as content
use Rattle.tml_types.specs.Content.{PlainTyped}
use Rattle.tml_types.specs.View.{reference_at_end}
use Rattle.tml_refs.specs.declared.document.DocLink.{DocLink}
use Rattle.tml_refs.specs.declared.links.NamedLink.{NamedLink}
use Rattle.tml_refs.specs.declared.name_index.Entry.{Entry}
use Rattle.tml_refs.specs.NameIndex.{HasIntervalNumber, is_either_unlisted}

-- the link of a TLINK by the identifiers of its ends
abbrev pub IsNamedLink : PlainTyped → NamedLink → Type 0
IsNamedLink t n = (n.place ≡ t.place) × elim t.content [
  | content.tlink l ↦ (reference_at_end n.left ≡ l.left) × (n.rel ≡ l.rel) × (reference_at_end n.right ≡ l.right)
  | _ ↦ ⊥
]

-- one of its ends is to no tag
abbrev pub is_loose : List Entry → NamedLink → Bool
is_loose names n = is_either_unlisted names (reference_at_end n.left) (reference_at_end n.right)

-- the same link with the numbers of its ends
abbrev pub IsLinked : List Entry → NamedLink → DocLink → Type 0
IsLinked names n link = HasIntervalNumber names (reference_at_end n.left) link.a × (link.rel ≡ n.rel) × HasIntervalNumber names (reference_at_end n.right) link.b

-- where none of the links is loose, these are the same links with the numbers of their ends
abbrev pub AreLinked : List Entry → List NamedLink → List DocLink → Type 0
AreLinked names named links = All (λ (n : NamedLink). is_loose names n ≡ false) named → AllZip (IsLinked names) named links

-- none before this place is loose
abbrev pub NoneIsLoose : List Entry → List NamedLink → ℕ → Type 0
NoneIsLoose names named place = All (λ (n : NamedLink). n.place < place → is_loose names n ≡ false) named

-- a link at a place has an end at no tag
abbrev pub IsLooseAt : List Entry → List NamedLink → ℕ → Type 0
IsLooseAt names links place = (n : NamedLink) × Contains links n × (n.place ≡ place) × (is_loose names n ≡ true)
