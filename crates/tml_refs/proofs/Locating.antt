-- The tags of intervals, and that no two of them have one name.
use Rattle.std.proofs.Common.{◌≡◌, ℕ, suc, zero, true, false, List, [], ◌∷◌, ◌++◌, length, refl, sym, ap, ◌∙◌, inl, inr, Option, Some, None, option_map}
use Rattle.std.specs.List.{list_any, cons_option, slice_get}
use Rattle.std.specs.Str.{bytes_eq}
use Rattle.std.proofs.lemmas.Slice.Eq.{bytes_eq-Decides}
use Rattle.faults.specs.declared.kind.FaultKind.TheVariants.{DuplicateId}
use Rattle.faults.specs.First.{NoneBreaks}
use Rattle.named.proofs.Cuts.{two_cuts}
use Rattle.tml_types.specs.Content as content
use Rattle.tml_types.specs.Content.{Content, PlainTyped}
use Rattle.tml_types.specs.References as references
use Rattle.tml_types.specs.References.{id_of}
use Rattle.tml_refs.specs.Documents.{IsNamed, PlainInterval, interval_of, intervals_of, kind_of, interval_name}
use Rattle.tml_refs.specs.Rules.{BreaksReferenceRule, has_id}
use Rattle.tml_refs.proofs.Lists.{any_inside}

-- the tag of an interval
pub record Located (all : List PlainTyped) (i : ℕ) (v : PlainInterval) : Type 0 where
  pub before : List PlainTyped
  pub tag : PlainTyped
  pub after : List PlainTyped
  pub whole : all ≡ before ++ tag ∷ after
  pub its : interval_of tag ≡ Some v
  pub number : length (intervals_of before) ≡ i

counted : (tag : PlainTyped) (ns : List PlainInterval) (o : Option PlainInterval) → interval_of tag ≡ o → length (cons_option (interval_of tag) ns) ≡ length (cons_option o ns)
counted tag ns o e = ap (λ (p : Option PlainInterval). length (cons_option p ns)) e

one_before : (first : PlainTyped) (all : List PlainTyped) (o : Option PlainInterval) (i k : ℕ) (v : PlainInterval) → interval_of first ≡ o → ((ns : List PlainInterval) → length ns ≡ i → length (cons_option o ns) ≡ k) → Located all i v → Located (first ∷ all) k v
one_before first all o i k v e n l = record {
  before = first ∷ l.before;
  tag = l.tag;
  after = l.after;
  whole = ap (λ (ts : List PlainTyped). first ∷ ts) l.whole;
  its = l.its;
  number = counted first (intervals_of l.before) o e ∙ n (intervals_of l.before) l.number;
}

located_by : (tag : PlainTyped) (all : List PlainTyped) (i : ℕ) (v : PlainInterval) (o : Option PlainInterval) → ((j : ℕ) → slice_get (intervals_of all) j ≡ Some v → Located all j v)
    → interval_of tag ≡ o → slice_get (cons_option o (intervals_of all)) i ≡ Some v → Located (tag ∷ all) i v
located_by tag all i v None rest e h = one_before tag all None i i v e (λ ns n. n) (rest i h)
located_by tag all zero v (Some w) rest e h = record { before = []; tag = tag; after = all; whole = refl; its = e ∙ h; number = refl }
located_by tag all (suc i) v (Some w) rest e h = one_before tag all (Some w) i (suc i) v e (λ ns n. ap suc n) (rest i h)

pub located : (all : List PlainTyped) (i : ℕ) (v : PlainInterval) → slice_get (intervals_of all) i ≡ Some v → Located all i v
located [] i v h = absurd cc
located (tag ∷ all) i v h = located_by tag all i v (interval_of tag) (λ j k. located all j v k) refl h

-- ---- one tag

abbrev pub with_content : PlainTyped → Content → PlainTyped
with_content tag c = record { place = tag.place; content = c }

-- the identifier and the kind of an interval are those of its tag
pub its_id : (tag : PlainTyped) (v : PlainInterval) → interval_of tag ≡ Some v → id_of tag.content ≡ Some (interval_name v)
its_id tag v = elim tag.content as (λ c. interval_of (with_content tag c) ≡ Some v → id_of c ≡ Some (interval_name v)) [
  | content.instance x ↦ λ h. ap (option_map interval_name) h
  | content.timex x ↦ λ h. ap (option_map interval_name) h
  | _ ↦ λ h. absurd cc
]

pub its_kind : (tag : PlainTyped) (v : PlainInterval) → interval_of tag ≡ Some v → references.kind_of tag.content ≡ kind_of v
its_kind tag v = elim tag.content as (λ c. interval_of (with_content tag c) ≡ Some v → references.kind_of c ≡ kind_of v) [
  | content.instance x ↦ λ h. cc
  | content.timex x ↦ λ h. cc
  | _ ↦ λ h. absurd cc
]

pub has_own_id : (tag : PlainTyped) (name : List ℕ) → id_of tag.content ≡ Some name → has_id name tag ≡ true
has_own_id tag name e = ap (λ (o : Option (List ℕ)). elim o [ None ↦ false | Some id ↦ bytes_eq name id ]) e ∙ (bytes_eq-Decides name name).1 refl

id_by : (name : List ℕ) (o : Option (List ℕ)) → elim o [ None ↦ false | Some id ↦ bytes_eq name id ] ≡ true → o ≡ Some name
id_by name None h = absurd cc
id_by name (Some id) h = ap (λ (n : List ℕ). Some n) (sym ((bytes_eq-Decides name id).0 h))

pub its_own_id : (tag : PlainTyped) (name : List ℕ) → has_id name tag ≡ true → id_of tag.content ≡ Some name
its_own_id tag name h = id_by name (id_of tag.content) h

-- ---- names

-- a tag that has the identifier of a tag before it breaks the rule of identifiers
pub repeats_id : (all before : List PlainTyped) (tag : PlainTyped) (name : List ℕ) → id_of tag.content ≡ Some name → list_any (has_id name) before ≡ true → BreaksReferenceRule all DuplicateId before tag
repeats_id all before tag name e h = ap (λ (o : Option (List ℕ)). elim o [ None ↦ false | Some id ↦ list_any (has_id id) before ]) e ∙ h

twice : (all before mid after : List PlainTyped) (tag other : PlainTyped) (name : List ℕ) → NoneBreaks (BreaksReferenceRule all) all → all ≡ (before ++ tag ∷ mid) ++ other ∷ after → id_of tag.content ≡ Some name → id_of other.content ≡ Some name → ⊥
twice all before mid after tag other name sound e t o =
    sound (before ++ tag ∷ mid) after other DuplicateId e (repeats_id all (before ++ tag ∷ mid) other name o (any_inside (has_id name) before mid tag (has_own_id tag name t)))

one_place : (all : List PlainTyped) (name : List ℕ) (i j : ℕ) (v w : PlainInterval) → NoneBreaks (BreaksReferenceRule all) all → Located all i v → Located all j w → interval_name v ≡ name → interval_name w ≡ name → i ≡ j
one_place all name i j v w sound l m e f =
    let own = its_id l.tag v l.its ∙ ap (λ (n : List ℕ). Some n) e in
    let its = its_id m.tag w m.its ∙ ap (λ (n : List ℕ). Some n) f in
    elim (two_cuts l.before m.before l.after m.after l.tag m.tag (sym l.whole ∙ m.whole)) [
      | inl k ↦ sym l.number ∙ ap (λ (ts : List PlainTyped). length (intervals_of ts)) k.0 ∙ m.number
      | inr (inl k) ↦ absurd (twice all l.before k.0 m.after l.tag m.tag name sound (m.whole ∙ ap (λ (ts : List PlainTyped). ts ++ m.tag ∷ m.after) k.1) own its)
      | inr (inr k) ↦ absurd (twice all m.before k.0 l.after m.tag l.tag name sound (l.whole ∙ ap (λ (ts : List PlainTyped). ts ++ l.tag ∷ l.after) k.1) its own)
    ]

pub distinct_names : (all : List PlainTyped) (name : List ℕ) (i j : ℕ) → NoneBreaks (BreaksReferenceRule all) all → IsNamed (intervals_of all) name i → IsNamed (intervals_of all) name j → i ≡ j
distinct_names all name i j sound h k = one_place all name i j h.0 k.0 sound (located all i h.0 h.1) (located all j k.0 k.1) h.2 k.2
