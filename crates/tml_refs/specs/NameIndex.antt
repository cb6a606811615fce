-- Serves the code: the names of a document: an entry for each tag that has an identifier, in the order of the identifiers.
use Rattle.std.specs.Prelude.{◌≡◌, ◌<◌, ◌≤◌, ℕ, Bool, true, not, ◌&&◌, ◌||◌, ◌==◌, List, ◌∷◌, ◌++◌, length, Some, IsSome, ⊤}
use Rattle.std.specs.Cmp.Lexicographic.{slice_cmp}
use Rattle.std.specs.List.{All, Contains, count_by, list_any, slice_get}
use Rattle.std.specs.List.Sorted.{IsSortedByKey}
use Rattle.std.specs.Ordering.{nat_cmp, ordering_then}
use Rattle.std.specs.Str.{bytes_eq}
use Rattle.std.specs.declared.cmp.Ordering.{Ordering}
use Rattle.tml_types.specs.declared.typed.TagKind.{TagKind}
use Rattle.tml_types.specs.declared.typed.TagKind.TheVariants as kind
use Rattle.tml_types.specs.Content.{Content, PlainTyped, Reference, tlink}
pub use Rattle.tml_types.specs.Heads.{head_of}
use Rattle.tml_types.specs.References.{id_of, kind_of, optional_reference, reference, references_of}
pub use Rattle.tml_types.specs.References.{rank_of}
use Rattle.tml_refs.specs.declared.name_index.Entry.{Entry}
use Rattle.tml_refs.specs.declared.name_index.Key.{Key}
use Rattle.tml_refs.specs.Documents.{IsDocument, PlainDocument, PlainInterval, RefersTo, intervals_of, interval_name}
use Rattle.tml_refs.specs.Documents as documents

-- a key is that of what a reference asks for
pub record IsKeyOf (r : Reference) (key : Key) : Type 0 where
  pub head : key.head ≡ head_of r.name
  pub name : key.name.now ≡ r.name
  pub rank : key.rank ≡ rank_of r.asked

-- ---- an entry

abbrev pub entry_name : Entry → List ℕ
entry_name e = e.key.name.now

-- an entry is that of a tag, after the tags before it
pub record IsEntryOf (before : List PlainTyped) (tag : PlainTyped) (e : Entry) : Type 0 where
  pub head : e.key.head ≡ head_of (entry_name e)
  pub name : id_of tag.content ≡ Some (entry_name e)
  pub rank : e.key.rank ≡ rank_of (kind_of tag.content)
  pub place : e.place ≡ tag.place
  pub number : e.number ≡ length (intervals_of before)

-- an entry is that of a tag after any tags with this many intervals
abbrev pub IsEntryAfter : ℕ → PlainTyped → Entry → Type 0
IsEntryAfter number tag e = (before : List PlainTyped) → number ≡ length (intervals_of before) → IsEntryOf before tag e

abbrev pub IsEntryIn : List PlainTyped → Entry → Type 0
IsEntryIn tags e =
    (before after : List PlainTyped) × (tag : PlainTyped) × (tags ≡ before ++ tag ∷ after) × IsEntryOf before tag e

abbrev pub is_at : ℕ → Entry → Bool
is_at place e = e.place == place

abbrev pub HasEntry : List Entry → List PlainTyped → PlainTyped → Type 0
HasEntry entries before tag = (e : Entry) × Contains entries e × IsEntryOf before tag e

-- Each tag that has an identifier has an entry, each entry is that of a tag, and no two have one place.
pub record AreEntriesOf (tags : List PlainTyped) (entries : List Entry) : Type 0 where
  pub each : (before after : List PlainTyped) (tag : PlainTyped)
      → tags ≡ before ++ tag ∷ after → IsSome (id_of tag.content) → HasEntry entries before tag
  pub only : All (IsEntryIn tags) entries
  pub apart : (place : ℕ) → count_by (is_at place) entries ≤ 1

-- ---- the order

abbrev pub key_order : Key → Key → Ordering
key_order k l =
    ordering_then (nat_cmp k.head l.head) (ordering_then (slice_cmp nat_cmp k.name.now l.name.now) (nat_cmp k.rank l.rank))

abbrev pub key_of : Entry → Key
key_of e = e.key

abbrev pub HasHead : Key → Type 0
HasHead k = k.head ≡ head_of k.name.now

-- Entries are ordered by their keys, the head of each is that of its name, and no two have one place.
pub record AreEntriesInOrder (entries : List Entry) : Type 0 where
  pub sorted : IsSortedByKey key_of key_order entries
  pub heads : All (λ (e : Entry). HasHead e.key) entries
  pub apart : (place : ℕ) → count_by (is_at place) entries ≤ 1

-- ---- what entries say

-- the tag at a place has the name of a tag before it
abbrev pub Repeats : List Entry → ℕ → Type 0
Repeats entries place =
    (e other : Entry) × Contains entries e × Contains entries other
    × (entry_name e ≡ entry_name other) × (e.place < other.place) × (other.place ≡ place)

-- the first place before an end at which a name is repeated, or the end where there is none
pub record IsFirstRepeat (entries : List Entry) (end first : ℕ) : Type 0 where
  pub at_most : first ≤ end
  pub none_before : (place : ℕ) → Repeats entries place → first ≤ place
  pub here : first < end → Repeats entries first

-- an entry is that of a tag that a reference asks for
abbrev pub is_for : Reference → Entry → Bool
is_for r e = e.key.rank == rank_of r.asked && bytes_eq r.name (entry_name e)

abbrev pub is_listed : List Entry → Reference → Bool
is_listed entries r = list_any (is_for r) entries

abbrev pub is_unlisted : List Entry → Reference → Bool
is_unlisted entries r = not (is_listed entries r)

-- one of two references is to no tag
abbrev pub is_either_unlisted : List Entry → Reference → Reference → Bool
is_either_unlisted entries r other = is_unlisted entries r || is_unlisted entries other

-- the number of intervals before a tag that a reference asks for
abbrev pub HasNumber : List Entry → Reference → ℕ → Type 0
HasNumber entries r number = (e : Entry) × Contains entries e × (is_for r e ≡ true) × (e.number ≡ number)

-- tags of this kind are intervals
abbrev pub IsOfIntervals : TagKind → Type 0
IsOfIntervals kind.Instance = ⊤
IsOfIntervals kind.Timex = ⊤
IsOfIntervals other = ⊥

abbrev pub HasIntervalNumber : List Entry → Reference → ℕ → Type 0
HasIntervalNumber entries r number = IsOfIntervals r.asked × HasNumber entries r number

-- the references of a tag but for the ends of a TLINK
abbrev pub other_references : Content → List Reference
other_references (tlink l) = optional_reference kind.Signal l.signal
other_references content = references_of content

-- The entries find each interval by its kind and name, and an interval that is found is at the number that they say.
pub record IsIndexOf (intervals : List PlainInterval) (entries : List Entry) : Type 0 where
  pub each : (i : ℕ) (v : PlainInterval)
      → slice_get intervals i ≡ Some v → HasNumber entries (reference (documents.kind_of v) (interval_name v)) i
  pub only : (r : Reference) (i : ℕ) → HasIntervalNumber entries r i → RefersTo intervals r i

abbrev pub IsIndexedDocument : PlainDocument → List Entry → Type 0
IsIndexedDocument doc entries = IsDocument doc × IsIndexOf doc.intervals entries
