-- The tree of a canonical text breaks no rule where the tree that was written breaks none, and says the same.
use Rattle.std.proofs.Common.{◌≡◌, ◌+◌, ℕ, List, [], ◌∷◌, length, refl, sym, ap, All}
use Rattle.std.specs.List.{AllZip, filter}
use Rattle.std.proofs.lemmas.List.Elements.{All-filter, All-head, All-tail}
use Rattle.named.proofs.Pairs.{zip_append}
use Rattle.tml_span.specs.Units.{Attribute, start_tag}
use Rattle.tml_span.specs.Written.{unit_text, tag_attributes}
use Rattle.tml_tree.specs.Plain.{PlainNode, PlainNodes, text_node, comment_node, element, none, more}
use Rattle.tml_tree.specs.Walking.{PlainTag, elements, all_elements}
use Rattle.tml_tree.specs.Written.{node_at, nodes_at, size_of}
use Rattle.tml_types.specs.Content.{PlainTyped}
use Rattle.tml_types.specs.Rules.{BreaksNoTagRule}
use Rattle.tml_types.specs.Typing.{TypedAs}
use Rattle.tml_types.specs.Whole.{has_rows}
use Rattle.tml_canon.specs.Canonical.{canonical, canonical_nodes, canonical_attributes}
use Rattle.tml_canon.specs.Laws.{CanonicalSaysTheSame, canonical_tree}
use Rattle.tml_canon.proofs.Named.{canonical_are_quoted}
use Rattle.tml_canon.proofs.Pairs.{pairs_all, pairs_filter}
use Rattle.tml_canon.proofs.Resolving.{SayOne, resolved_alike}
use Rattle.tml_canon.proofs.Sound.{IsQuoted, sound_quoted, typed_quoted}

-- ---- the elements

-- the tag of an element of the canonical text has the values of that which was written, quoted
tag_quoted : (start place : ℕ) (name : List ℕ) (attrs : List Attribute)
    → IsQuoted (record { place = start; name = name; attrs = attrs }) (record { place = place; name = name; attrs = tag_attributes place name (canonical_attributes attrs) })
tag_quoted start place name attrs = record { name = refl; attrs = canonical_are_quoted place name attrs }

-- The same of each element of a tree, and of each among some nodes.
mutual
  elements_quoted : (place : ℕ) (n : PlainNode) → AllZip IsQuoted (elements n) (elements (node_at place (canonical n)))
  elements_quoted place (text_node start end bytes) = tt
  elements_quoted place (comment_node start end bytes) = tt
  elements_quoted place (element start end name attrs none) = (tag_quoted start place name attrs, tt)
  elements_quoted place (element start end name attrs (more n ns)) =
      (tag_quoted start place name attrs, nodes_quoted (place + length (unit_text (start_tag name (canonical_attributes attrs)))) (more n ns))

  nodes_quoted : (place : ℕ) (ns : PlainNodes) → AllZip IsQuoted (all_elements ns) (all_elements (nodes_at place (canonical_nodes ns)))
  nodes_quoted place none = tt
  nodes_quoted place (more n ns) =
      zip_append IsQuoted (elements n) (all_elements ns) (elements (node_at place (canonical n))) (all_elements (nodes_at (place + size_of (canonical n)) (canonical_nodes ns)))
      (elements_quoted place n) (nodes_quoted (place + size_of (canonical n)) ns)

-- ---- what they say

-- the typed tags of some tags, and what they say
record SayAs (tags : List PlainTag) (typed : List PlainTyped) : Type 0 where
  others : List PlainTyped
  are_typed : AllZip TypedAs tags others
  say : AllZip SayOne typed others

-- tags with quoted values say what they said
say_quoted : (tags others : List PlainTag) (typed : List PlainTyped) → AllZip IsQuoted tags others → All BreaksNoTagRule tags → AllZip TypedAs tags typed → SayAs others typed
say_quoted [] [] [] q s h = record { others = []; are_typed = tt; say = tt }
say_quoted [] [] (x ∷ typed) q s h = absurd h
say_quoted [] (u ∷ others) typed q s h = absurd q
say_quoted (t ∷ tags) [] typed q s h = absurd q
say_quoted (t ∷ tags) (u ∷ others) [] q s h = absurd h
say_quoted (t ∷ tags) (u ∷ others) (x ∷ typed) q s h =
    let rest = say_quoted tags others typed q.1 (All-tail BreaksNoTagRule t tags s) h.1 in record {
      others = record { place = u.place; content = x.content } ∷ rest.others;
      are_typed = (typed_quoted t u x q.0 (All-head BreaksNoTagRule t tags s) h.0, rest.are_typed);
      say = (refl, rest.say);
    }

-- a tag has rows in the table where the one of its name has
same_rows : (t u : PlainTag) → IsQuoted t u → has_rows t ≡ has_rows u
same_rows t u h = ap (λ (n : List ℕ). has_rows (record { place = 0; name = n; attrs = [] })) (sym h.name)

-- the tree of a canonical text says the same
pub canonical_says_the_same : CanonicalSaysTheSame
canonical_says_the_same root contents (typed, types, resolved) =
    let tags = elements root in
    let others = elements (canonical_tree root) in
    let quoted = elements_quoted 0 root in
    let said = say_quoted (filter has_rows tags) (filter has_rows others) typed (pairs_filter IsQuoted has_rows has_rows same_rows tags others quoted) (All-filter has_rows BreaksNoTagRule tags types.sound) types.typed_tags in (
      said.others,
      record { sound = pairs_all IsQuoted BreaksNoTagRule BreaksNoTagRule sound_quoted tags others quoted types.sound; typed_tags = said.are_typed },
      resolved_alike typed said.others said.say contents resolved,
    )
