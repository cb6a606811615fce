-- Where the units of nodes are written.
use Rattle.std.proofs.Common.{◌≡◌, ℕ, ◌+◌, List, [], ◌∷◌, ◌++◌, length, ap, ◌∙◌, length-append, arith}
use Rattle.std.proofs.lemmas.List.{append-nil}
use Rattle.std.proofs.lemmas.Grind.{flat_map-append}
use Rattle.tml_span.specs.Units.{Attribute, Kind, start_tag, end_tag, empty_tag, PlainUnit}
use Rattle.tml_span.specs.Written.{unit_text, written, unit_at, units_at}
use Rattle.tml_tree.specs.Plain.{PlainNode, PlainNodes, element, none, more}
use Rattle.tml_tree.specs.Written.{all_kinds, size_of}

-- kinds written after others begin where these end
pub units_append : (place : ℕ) (kinds others : List Kind) → units_at place (kinds ++ others) ≡ units_at place kinds ++ units_at (place + length (written kinds)) others
units_append place [] others = ap (λ (p : ℕ). units_at p others) (omega arith)
units_append place (k ∷ kinds) others =
    let after = place + length (unit_text k) in
    let total = length-append (unit_text k) (written kinds) in
    let same : after + length (written kinds) ≡ place + length (written (k ∷ kinds)) = omega (arith, total) in
    ap (λ (us : List PlainUnit). unit_at place k ∷ us) (units_append after kinds others ∙ ap (λ (p : ℕ). units_at after kinds ++ units_at p others) same)

-- an element without children ends where its empty tag does
pub empty_end : (place start end : ℕ) (name : List ℕ) (attrs : List Attribute) → place + length (unit_text (empty_tag name attrs)) ≡ place + size_of (element start end name attrs none)
empty_end place start end name attrs = let same = ap length (append-nil (unit_text (empty_tag name attrs))) in omega (arith, same)

-- the place after the start tag of an element
abbrev pub inside_at : ℕ → List ℕ → List Attribute → ℕ
inside_at place name attrs = place + length (unit_text (start_tag name attrs))

-- the place of the end tag of an element
abbrev pub turn_at : ℕ → List ℕ → List Attribute → PlainNodes → ℕ
turn_at place name attrs children = inside_at place name attrs + length (written (all_kinds children))

-- an element with children ends where its end tag does
pub element_end : (place start end : ℕ) (name : List ℕ) (attrs : List Attribute) (n : PlainNode) (ns : PlainNodes)
    → turn_at place name attrs (more n ns) + length (unit_text (end_tag name)) ≡ place + size_of (element start end name attrs (more n ns))
element_end place start end name attrs n ns =
    let last = end_tag name in
    let whole = length-append (unit_text (start_tag name attrs)) (written (all_kinds (more n ns) ++ last ∷ [])) in
    let parts = ap length (flat_map-append unit_text (all_kinds (more n ns)) (last ∷ [])) ∙ length-append (written (all_kinds (more n ns))) (written (last ∷ [])) in
    let alone = ap length (append-nil (unit_text last)) in
    omega (arith, whole, parts, alone)
