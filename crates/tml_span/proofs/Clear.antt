-- Where no `&` stands, no reference is bad.
use Rattle.std.proofs.Common.{◌≡◌, ℕ, ◌+◌, ◌-◌, ◌<◌, ◌≤◌, List, [], ◌∷◌, ◌++◌, length, drop, get_or, map, sym, ap, subst, ◌∙◌, inl, inr, arith, length-append}
use Rattle.std.specs.Prelude.{slice_index, slice_range}
use Rattle.std.specs.List.{AllByRecursion}
use Rattle.std.proofs.lemmas.List.{get_or-drop, get_or-take}
use Rattle.std.proofs.Math.Seq.{get_or-append_seam}
use Rattle.tml_span.specs.Cutter.{IsClear}
use Rattle.tml_span.specs.References.{FollowEachOther, HasPiecesInOrder, IsBadAt, IsBadIn, IsNowhere, Piece, kind_pieces, pieces_of, value_piece}
use Rattle.tml_span.specs.Slices.{AttributeIsIn, KindIsIn, UnitIsIn}
use Rattle.tml_span.specs.Units.{Attribute, Kind, PlainUnit, bom, comment, declaration, doctype, empty_tag, end_tag, start_tag, text}

-- at a place from low up to high the source has an `&`
record HasAmpersand (source : List ℕ) (low high place : ℕ) : Type 0 where
  pub is : slice_index source place ≡ 38
  pub from : low ≤ place
  pub below : place < high

-- what is bad in a slice of the source is an `&` of the source
bad_in_slice : (source slice : List ℕ) (start high index : ℕ) → slice_range source start high ≡ slice → start + length slice ≤ high → IsBadAt slice index → HasAmpersand source start (start + length slice) (start + index)
bad_in_slice source slice start high index same fits bad =
    let lt : index < length slice = omega (arith, bad.index_is, ap length bad.whole, length-append bad.prefix (38 ∷ bad.suffix)) in
    let there : get_or slice index 0 ≡ 38 =
    ap (λ (s : List ℕ). get_or s index 0) bad.whole ∙ ap (λ (n : ℕ). get_or (bad.prefix ++ 38 ∷ bad.suffix) n 0) bad.index_is ∙ get_or-append_seam bad.prefix 38 bad.suffix 0 in
    record {
      is = sym (get_or-drop start source index 0) ∙ sym (get_or-take (high - start) (drop start source) index 0 (omega (arith, lt, fits))) ∙ ap (λ (s : List ℕ). get_or s index 0) same ∙ there;
      from = omega arith;
      below = omega (arith, lt);
    }

follows_high : (low : ℕ) (pieces : List Piece) (high : ℕ) → FollowEachOther low pieces high → low ≤ high
follows_high low [] high order = order
follows_high low (piece ∷ pieces) high order = omega (arith, order.0, follows_high (piece.0 + length piece.1) pieces high order.1)

bad_in_values : (source : List ℕ) (attrs : List Attribute) (low high place : ℕ) → AllByRecursion (AttributeIsIn source) attrs → FollowEachOther low (map value_piece attrs) high → IsBadIn (map value_piece attrs) place → HasAmpersand source low high place
bad_in_values source [] low high place are order bad = absurd bad
bad_in_values source (a ∷ attrs) low high place are order bad =
    let start = a.end - 1 - length a.value in
    elim bad as (λ b. HasAmpersand source low high place) [
      | inl found ↦
          let here = bad_in_slice source a.value start (start + length a.value) found.0 are.0.1 (omega arith) found.1 in
          let more = follows_high (start + length a.value) (map value_piece attrs) high order.1 in
          record {
            is = subst (λ (p : ℕ). slice_index source p ≡ 38) (sym found.2) here.is;
            from = omega (arith, order.0, found.2);
            below = omega (arith, here.below, more, found.2);
          }
      | inr others ↦
          let here = bad_in_values source attrs (start + length a.value) high place are.1 order.1 others in
          record { is = here.is; from = omega (arith, order.0, here.from); below = here.below }
    ]

bad_in_kind : (source : List ℕ) (start end : ℕ) (k : Kind) → KindIsIn source start end k → FollowEachOther start (kind_pieces start k) end → (place : ℕ) → IsBadIn (kind_pieces start k) place → HasAmpersand source start end place
bad_in_kind source start end bom inside order place bad = absurd bad
bad_in_kind source start end (declaration bytes) inside order place bad = absurd bad
bad_in_kind source start end (doctype bytes) inside order place bad = absurd bad
bad_in_kind source start end (comment bytes) inside order place bad = absurd bad
bad_in_kind source start end (text bytes) inside order place bad =
    elim bad as (λ b. HasAmpersand source start end place) [
      | inl found ↦
          let here = bad_in_slice source bytes start end found.0 inside order.1 found.1 in
          record { is = subst (λ (p : ℕ). slice_index source p ≡ 38) (sym found.2) here.is; from = omega (arith, found.2); below = omega (arith, here.below, order.1, found.2) }
      | inr none ↦ absurd none
    ]
bad_in_kind source start end (start_tag name attrs) inside order place bad = bad_in_values source attrs start end place inside.1 order bad
bad_in_kind source start end (end_tag name) inside order place bad = absurd bad
bad_in_kind source start end (empty_tag name attrs) inside order place bad = bad_in_values source attrs start end place inside.1 order bad

-- in a unit of the source without `&` no reference is bad
pub no_bad : (source : List ℕ) (u : PlainUnit) (clear : ℕ) → UnitIsIn source u → HasPiecesInOrder u → IsClear source u.start clear → u.end ≤ clear → IsNowhere (IsBadIn (pieces_of u))
no_bad source u clear inside order is_clear within place bad =
    let here = bad_in_kind source u.start u.end u.kind inside order.follows place bad in
    is_clear place here.from (omega (arith, here.below, within)) here.is

-- the same from a later place on
pub clear_later : (source : List ℕ) (place later clear : ℕ) → place ≤ later → IsClear source place clear → IsClear source later clear
clear_later source place later clear le is_clear k from below = is_clear k (omega (arith, le, from)) below

-- the first bytes of what follows a place have no `&`
pub clear_ahead : (source rest : List ℕ) (place n : ℕ) → rest ≡ drop place source → ((k : ℕ) → k < n → slice_index rest k ≡ 38 → ⊥) → IsClear source place (place + n)
clear_ahead source rest place n is none k from below e =
    let index : place + (k - place) ≡ k = omega (arith, from) in
    let there : slice_index rest (k - place) ≡ slice_index source k =
    ap (λ (s : List ℕ). get_or s (k - place) 0) is ∙ get_or-drop place source (k - place) 0 ∙ ap (λ (n : ℕ). get_or source n 0) index in
    none (k - place) (omega (arith, from, below)) (there ∙ e)
