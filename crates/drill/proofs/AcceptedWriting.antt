-- The tree of a drill can be written, and its nodes may stand where they do.
use Rattle.std.proofs.Common.{◌≡◌, ℕ, ◌<◌, true, List, [], ◌∷◌, ◌++◌, refl, sym, ap, subst, ◌∙◌, append_assoc, arith}
use Rattle.std.specs.Prelude.{codes}
use Rattle.std.specs.List.{All, AllByRecursion, flat_map, list_all}
use Rattle.std.proofs.lemmas.List.{append-nil}
use Rattle.std.proofs.lemmas.List.Concat.{flat_map-append}
use Rattle.std.proofs.lemmas.List.Elements.{All-nil, All-cons}
use Rattle.named.proofs.Lists.{all_append}
use Rattle.net_core.specs.Limits.{max_intervals}
use Rattle.tml_span.proofs.Utf8.{ascii_utf8, is_ascii}
use Rattle.tml_refs.specs.declared.document.DocLink.{DocLink}
use Rattle.tml_span.specs.Bytes.{is_name, is_text_byte}
use Rattle.tml_span.specs.Units.{Attribute, Kind, text, start_tag, end_tag, empty_tag}
use Rattle.tml_span.specs.Written.{attribute_text, unit_text, written, IsAttribute, IsContent, BeginsWithText, NoTextsMeet, AreWritable}
use Rattle.tml_tree.specs.Plain.{PlainNode, nodes_of}
use Rattle.tml_tree.specs.Written.{kinds_of, all_kinds, AllMayStand, MayBeRoot, root_kinds}
use Rattle.drill.proofs.AcceptedBytes.{is_plain, plain_ascii, plain_references, plain_value, event_plain, instance_plain, relation_plain}
use Rattle.drill.proofs.AcceptedLists.{after_pieces}
use Rattle.drill.proofs.AcceptedTree.{event_attributes, instance_attributes, link_attributes, interval_nodes, link_nodes, lines_of, root_of, flat_map_pieces, kinds_of_nodes}

-- ---- tags of plain bytes

-- a name and a value of plain bytes
abbrev pub IsPlain : Attribute → Type 0
IsPlain a = (is_name a.name ≡ true) × (list_all is_plain a.name ≡ true) × (list_all is_plain a.value ≡ true)

-- a unit that can be written, in ASCII
abbrev pub IsSafe : Kind → Type 0
IsSafe kind = IsContent kind × (list_all is_ascii (unit_text kind) ≡ true)

-- plain attributes can be written
attributes_writable : (attrs : List Attribute) → AllByRecursion IsPlain attrs → All IsAttribute attrs
attributes_writable [] h = All-nil IsAttribute
attributes_writable (a ∷ attrs) h = All-cons IsAttribute a attrs (h.0.0, plain_value a.value h.0.2, plain_references a.value h.0.2) (attributes_writable attrs h.1)

-- and their texts are ASCII
attributes_ascii : (attrs : List Attribute) → AllByRecursion IsPlain attrs → list_all is_ascii (flat_map attribute_text attrs) ≡ true
attributes_ascii [] h = refl
attributes_ascii (a ∷ attrs) h =
    let name = all_append is_ascii (codes " " ++ a.name) (codes "=\"") (plain_ascii a.name h.0.1) refl in
    let value = all_append is_ascii (codes " " ++ a.name ++ codes "=\"") a.value name (plain_ascii a.value h.0.2) in
    let whole = all_append is_ascii (codes " " ++ a.name ++ codes "=\"" ++ a.value) (codes "\"") value refl in
    all_append is_ascii (attribute_text a) (flat_map attribute_text attrs) whole (attributes_ascii attrs h.1)

-- a start tag of plain bytes
start_safe : (name : List ℕ) (attrs : List Attribute) → is_name name ≡ true → list_all is_plain name ≡ true → AllByRecursion IsPlain attrs → IsSafe (start_tag name attrs)
start_safe name attrs n p h = (
  (n, attributes_writable attrs h),
  all_append is_ascii (codes "<" ++ name ++ flat_map attribute_text attrs) (codes ">") (all_append is_ascii (codes "<" ++ name) (flat_map attribute_text attrs) (plain_ascii name p) (attributes_ascii attrs h)) refl,
)

-- an empty tag of plain bytes
empty_safe : (name : List ℕ) (attrs : List Attribute) → is_name name ≡ true → list_all is_plain name ≡ true → AllByRecursion IsPlain attrs → IsSafe (empty_tag name attrs)
empty_safe name attrs n p h = (
  (n, attributes_writable attrs h),
  all_append is_ascii (codes "<" ++ name ++ flat_map attribute_text attrs) (codes "/>") (all_append is_ascii (codes "<" ++ name) (flat_map attribute_text attrs) (plain_ascii name p) (attributes_ascii attrs h)) refl,
)

-- a text of plain bytes
text_safe : (b : ℕ) (bytes : List ℕ) → list_all is_text_byte (b ∷ bytes) ≡ true → list_all is_plain (b ∷ bytes) ≡ true → IsSafe (text (b ∷ bytes))
text_safe b bytes t h = ((λ e. absurd cc, t, plain_references (b ∷ bytes) h), plain_ascii (b ∷ bytes) h)

-- ---- units that can be written after each other

-- units that can be written, in ASCII, of which no two texts meet and the first is no text
pub record Follow (kinds : List Kind) : Type 0 where
  pub safe : AllByRecursion IsSafe kinds
  pub begins : BeginsWithText kinds → ⊥
  pub apart : NoTextsMeet kinds

-- the units of an interval
abbrev pub interval_kinds : ℕ → List Kind
interval_kinds i = flat_map kinds_of (interval_nodes i)

-- the units of a link
abbrev pub link_kinds : DocLink → List Kind
link_kinds link = flat_map kinds_of (link_nodes link)

-- a number that an interval may have
abbrev pub IsSmall : ℕ → Type 0
IsSmall i = i < max_intervals

-- the ends of a link have such numbers
abbrev pub HasSmallEnds : DocLink → Type 0
HasSmallEnds link = (link.a < max_intervals) × (link.b < max_intervals)

-- the LF of each line
line_safe : IsSafe (text (codes "\n"))
line_safe = text_safe 10 [] refl refl

-- the units of an interval may be followed by those that may follow
interval_follows : (i : ℕ) (rest : List Kind) → IsSmall i → Follow rest → Follow (interval_kinds i ++ rest)
interval_follows i rest small h =
    let event = event_plain i (omega arith) in
    let instance = instance_plain i (omega arith) in
    record {
      safe = (
        start_safe (codes "EVENT") (event_attributes i) refl refl ((refl, refl, event), ((refl, refl, refl), tt)),
        (text_safe 120 [] refl refl, ((refl, refl), (line_safe, (empty_safe (codes "MAKEINSTANCE") (instance_attributes i) refl refl ((refl, refl, instance), ((refl, refl, event), tt)), (line_safe, h.safe))))),
      );
      begins = λ b. b;
      apart = (λ b. b, (λ b. b, (h.begins, h.apart)));
    }

-- and so may those of a link
link_follows : (link : DocLink) (rest : List Kind) → HasSmallEnds link → Follow rest → Follow (link_kinds link ++ rest)
link_follows link rest small h =
    let left = instance_plain link.a (omega arith) in
    let right = instance_plain link.b (omega arith) in
    record {
      safe = (empty_safe (codes "TLINK") (link_attributes link) refl refl ((refl, refl, left), ((refl, refl, right), ((refl, refl, relation_plain link.rel), tt))), (line_safe, h.safe));
      begins = λ b. b;
      apart = (h.begins, h.apart);
    }

-- ---- the root

-- the units of a root and the LF after it
abbrev root_units : List ℕ → List DocLink → List Kind
root_units numbers links = start_tag (codes "TimeML") [] ∷ text (codes "\n") ∷ flat_map interval_kinds numbers ++ (flat_map link_kinds links ++ (end_tag (codes "TimeML") ∷ text (codes "\n") ∷ []))

-- the units of the lines inside
lines_kinds : (numbers : List ℕ) (links : List DocLink) → all_kinds (nodes_of (lines_of numbers links)) ≡ flat_map interval_kinds numbers ++ flat_map link_kinds links
lines_kinds numbers links =
    kinds_of_nodes (lines_of numbers links) ∙ flat_map-append kinds_of (flat_map interval_nodes numbers) (flat_map link_nodes links)
    ∙ (λ i. flat_map_pieces kinds_of interval_nodes interval_kinds (λ x. refl) numbers i ++ flat_map_pieces kinds_of link_nodes link_kinds (λ x. refl) links i)

-- these are the units of the tree
units_are : (numbers : List ℕ) (links : List DocLink) → root_units numbers links ≡ root_kinds (root_of numbers links)
units_are numbers links = sym (ap (λ (ks : List Kind). start_tag (codes "TimeML") [] ∷ text (codes "\n") ∷ (ks ++ end_tag (codes "TimeML") ∷ []) ++ text (codes "\n") ∷ []) (lines_kinds numbers links) ∙ simp append_assoc)

-- the units of the root follow each other
units_follow : (numbers : List ℕ) (links : List DocLink) → AllByRecursion IsSmall numbers → AllByRecursion HasSmallEnds links → Follow (root_units numbers links)
units_follow numbers links small ends =
    let last : Follow (end_tag (codes "TimeML") ∷ text (codes "\n") ∷ []) = record { safe = ((refl, refl), (line_safe, tt)); begins = λ b. b; apart = (λ b. b, tt) } in
    let later = after_pieces Follow HasSmallEnds link_kinds link_follows links (end_tag (codes "TimeML") ∷ text (codes "\n") ∷ []) ends last in
    let inside = after_pieces Follow IsSmall interval_kinds interval_follows numbers (flat_map link_kinds links ++ (end_tag (codes "TimeML") ∷ text (codes "\n") ∷ [])) small later in
    record { safe = (start_safe (codes "TimeML") [] refl refl tt, (line_safe, inside.safe)); begins = λ b. b; apart = (inside.begins, inside.apart) }

-- units that can be written in ASCII can be written
safe_content : (kinds : List Kind) → AllByRecursion IsSafe kinds → All IsContent kinds
safe_content [] h = All-nil IsContent
safe_content (k ∷ kinds) h = All-cons IsContent k kinds h.0.0 (safe_content kinds h.1)

-- and their text is ASCII
safe_ascii : (kinds : List Kind) → AllByRecursion IsSafe kinds → list_all is_ascii (written kinds) ≡ true
safe_ascii [] h = refl
safe_ascii (k ∷ kinds) h = all_append is_ascii (unit_text k) (written kinds) h.0.1 (safe_ascii kinds h.1)

-- units that follow each other can be written
follow_writable : (kinds : List Kind) → Follow kinds → AreWritable kinds
follow_writable kinds h = record {
  content = safe_content kinds h.safe;
  apart = h.apart;
  begins = h.begins;
  utf8 = ascii_utf8 (written kinds) (safe_ascii kinds h.safe);
}

-- the tree can be written
pub root_writable : (numbers : List ℕ) (links : List DocLink) → AllByRecursion IsSmall numbers → AllByRecursion HasSmallEnds links → AreWritable (root_kinds (root_of numbers links))
root_writable numbers links small ends = follow_writable (root_kinds (root_of numbers links)) (subst Follow (units_are numbers links) (units_follow numbers links small ends))

-- ---- where the nodes stand

-- no condition
abbrev IsAnything : {A : Type 0} → A → Type 0
IsAnything x = Unit {0}

-- which all elements meet
anything : {A : Type 0} (xs : List A) → AllByRecursion IsAnything xs
anything [] = tt
anything (x ∷ xs) = (tt, anything xs)

-- nodes may stand in the root
abbrev MayStandInRoot : List PlainNode → Type 0
MayStandInRoot nodes = AllMayStand 1 (nodes_of nodes)

-- the nodes of an interval may stand there before others
interval_stands : (i : ℕ) (rest : List PlainNode) → IsAnything i → MayStandInRoot rest → MayStandInRoot (interval_nodes i ++ rest)
interval_stands i rest q h = ((refl, refl, omega arith, λ e. absurd cc, (tt, tt)), (tt, ((refl, refl, omega arith, λ e. refl, tt), (tt, h))))

-- and so may those of a link
link_stands : (link : DocLink) (rest : List PlainNode) → IsAnything link → MayStandInRoot rest → MayStandInRoot (link_nodes link ++ rest)
link_stands link rest q h = ((refl, refl, omega arith, λ e. refl, tt), (tt, h))

-- each node of the tree may stand where it does
pub root_stands : (numbers : List ℕ) (links : List DocLink) → MayBeRoot (root_of numbers links)
root_stands numbers links =
    let later = after_pieces MayStandInRoot IsAnything link_nodes link_stands links [] (anything links) tt in
    let inside = after_pieces MayStandInRoot IsAnything interval_nodes interval_stands numbers (flat_map link_nodes links) (anything numbers) (subst MayStandInRoot (append-nil (flat_map link_nodes links)) later) in
    (refl, (tt, inside))
