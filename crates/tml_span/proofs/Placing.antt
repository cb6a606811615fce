-- The pieces of a unit are within its span.
use Rattle.std.proofs.Common.{ℕ, ◌+◌, ◌-◌, ◌<◌, ◌≤◌, List, [], ◌∷◌, length, map, sym, ap, subst, ◌∙◌, arith, length-append}
use Rattle.std.specs.List.{AllByRecursion}
use Rattle.tml_span.specs.Units.{Attribute, SpelledAttribute, SpelledAttributes, Kind, bom, declaration, doctype, comment, text, start_tag, end_tag, empty_tag, SpelledTag, PlainUnit, SpelledKind, Spelled}
use Rattle.tml_span.specs.Cutting.{FindsUnit}
use Rattle.tml_span.specs.References.{value_piece, kind_pieces, kind_attributes, FollowEachOther, EndsWithinAttribute, HasPiecesInOrder}

-- a value is between its place and the closing quote
pub value_before_end : (place : ℕ) (a : Attribute) (bytes : List ℕ) → SpelledAttribute place a bytes → place + length a.value < a.end
value_before_end place a bytes h =
    let total = simp length-append at (ap length h.whole) in
    omega (arith, h.end, total)

-- the values of attributes are in order
attributes_placed : (low place high : ℕ) (attrs : List Attribute) (inner : List ℕ) → low ≤ place → place + length inner ≤ high → SpelledAttributes place attrs inner → FollowEachOther low (map value_piece attrs) high × AllByRecursion EndsWithinAttribute attrs
attributes_placed low place high [] inner l m h = (omega arith, tt)
attributes_placed low place high (a ∷ attrs) inner l m h =
    let value = value_before_end place a h.0 h.3 in
    let len = ap length h.2 ∙ length-append h.0 h.1 in
    let others = attributes_placed (a.end - 1 - length a.value + length a.value) (place + length h.0) high attrs h.1 (omega (arith, h.3.end)) (omega arith) h.4 in
    ((omega arith, others.0), (omega arith, others.1))

tag_placed : (place : ℕ) (name : List ℕ) (attrs : List Attribute) (close prefix : List ℕ) → SpelledTag place name attrs close prefix → FollowEachOther place (map value_piece attrs) (place + length prefix) × AllByRecursion EndsWithinAttribute attrs
tag_placed place name attrs close prefix h =
    let total = simp length-append at (ap length h.whole) in
    attributes_placed place (place + 1 + length name) (place + length prefix) attrs h.inner (omega arith) (omega (arith, total)) h.attributes

kind_placed : (place : ℕ) (k : Kind) (prefix : List ℕ) → SpelledKind place k prefix → FollowEachOther place (kind_pieces place k) (place + length prefix) × AllByRecursion EndsWithinAttribute (kind_attributes k)
kind_placed place bom prefix h = (omega arith, tt)
kind_placed place (declaration bytes) prefix h = (omega arith, tt)
kind_placed place (doctype bytes) prefix h = (omega arith, tt)
kind_placed place (comment bytes) prefix h = (omega arith, tt)
kind_placed place (text bytes) prefix h = ((omega arith, omega (arith, ap length h.0)), tt)
kind_placed place (start_tag name attrs) prefix h = tag_placed place name attrs _ prefix h
kind_placed place (end_tag name) prefix h = (omega arith, tt)
kind_placed place (empty_tag name attrs) prefix h = tag_placed place name attrs _ prefix h

-- the pieces of a unit that is spelled at a place are in order within its span
pub placed : (place : ℕ) (u : PlainUnit) (prefix : List ℕ) → Spelled place u prefix → HasPiecesInOrder u
placed place u prefix h =
    let k = kind_placed place u.kind prefix h.kind in
    record {
      follows = subst (λ (p : ℕ × ℕ). FollowEachOther p.0 (kind_pieces p.0 u.kind) p.1) (λ i. (sym h.start i, sym h.end i)) k.0;
      within = k.1;
    }

pub found_placed : (place : ℕ) (bytes : List ℕ) (u : PlainUnit) (rest : List ℕ) → FindsUnit place bytes u rest → HasPiecesInOrder u
found_placed place bytes u rest found = placed place u found.0 found.2
