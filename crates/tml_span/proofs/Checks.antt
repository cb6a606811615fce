-- Units that are checked and not kept.
use Rattle.std.proofs.Common.{◌≡◌, inl, inr, ℕ, ◌+◌, ◌-◌, Bool, true, false, List, [], ◌∷◌, ◌++◌, length, map, refl, sym, subst, append_assoc, append-nil, arith, Option, Some, None}
use Rattle.std.proofs.lemmas.List.{map-append}
use Rattle.tml_span.specs.Cutting.{FindsUnit}
use Rattle.tml_span.specs.References.{Piece, FollowEachOther, FirstBadIn, IsBadIn, IsLeastPlace, EndsWithinAttribute, pieces_of, value_piece}
use Rattle.tml_span.specs.Reading.{ReadsAttributes, attribute_at}
use Rattle.tml_span.specs.Checking.{FirstInOrder}
use Rattle.tml_span.specs.Units.{Attribute, PlainUnit}
use Rattle.tml_span.proofs.FirstBad.{bad_in-append, first_in}
use Rattle.tml_span.proofs.Parts.{attribute_takes}
use Rattle.tml_span.proofs.Placing.{value_before_end, found_placed}
use Rattle.tml_span.proofs.TagUnits.{ReadsTag, close_of, tag_finds}

-- ---- the first bad place

-- one piece more
pub first_kept : (pieces : List Piece) (piece : Piece) (o : Option ℕ) (place : ℕ) → o ≡ Some place → FirstInOrder pieces o → FirstInOrder (pieces ++ piece ∷ []) o
first_kept pieces piece None place e h = absurd cc
first_kept pieces piece (Some place) other e h = (h.0, h.1, h.2 ++ piece ∷ [], rw h.3 (append_assoc h.0 (h.1 ∷ h.2) (piece ∷ [])), h.4, h.5)

pub first_more : (pieces : List Piece) (piece : Piece) (o : Option ℕ) → FirstInOrder pieces None → FirstBadIn (piece ∷ []) o → FirstInOrder (pieces ++ piece ∷ []) o
first_more pieces piece None h k = λ place b. elim (bad_in-append pieces (piece ∷ []) place b) [ inl before ↦ h place before | inr here ↦ k place here ]
first_more pieces piece (Some place) h k = (pieces, piece, [], refl, h, k)

-- of pieces that follow each other the first in order is the least
first_is : (pieces : List Piece) (low high : ℕ) (o : Option ℕ) → FollowEachOther low pieces high → FirstInOrder pieces o → FirstBadIn pieces o
first_is pieces low high None f h = h
first_is pieces low high (Some place) f h = subst (λ (ps : List Piece). IsLeastPlace (IsBadIn ps) place) (sym h.3) (first_in h.0 h.1 h.2 low high place (subst (λ (ps : List Piece). FollowEachOther low ps high) h.3 f) h.4 h.5)

-- ---- attributes

pub is_within : (place : ℕ) (bytes : List ℕ) (a : Attribute) (rest : List ℕ) → attribute_at place bytes ≡ Some (a, rest) → EndsWithinAttribute a
is_within place bytes a rest e =
    let t = attribute_takes place bytes a rest e in
    omega (arith, value_before_end place a t.0 t.2)

-- some attributes are checked, and those of the rest are the others
abbrev pub HasChecked : ℕ → List ℕ → ℕ → List ℕ → Option ℕ → Type 0
HasChecked place bytes at rest bad = (done : List Attribute) × FirstInOrder (map value_piece done) bad × ((more : List Attribute) (end : List ℕ) → ReadsAttributes at rest more end → ReadsAttributes place bytes (done ++ more) end)

pub one_checked : (place at : ℕ) (bytes rest after : List ℕ) (bad new : Option ℕ) (a : Attribute) → HasChecked place bytes at rest bad → attribute_at at rest ≡ Some (a, after)
    → ((pieces : List Piece) → FirstInOrder pieces bad → FirstInOrder (pieces ++ value_piece a ∷ []) new) → HasChecked place bytes (at + (length rest - length after)) after new
one_checked place at bytes rest after bad new a h e step = (
  h.0 ++ a ∷ [],
  subst (λ (ps : List Piece). FirstInOrder ps new) (sym (map-append value_piece h.0 (a ∷ []))) (step (map value_piece h.0) h.1),
  λ more end r. subst (λ (all : List Attribute). ReadsAttributes place bytes all end) (sym (append_assoc h.0 (a ∷ []) more)) (h.2 (a ∷ more) end (after, e, r)),
)

pub all_checked : (place at : ℕ) (bytes rest : List ℕ) (bad : Option ℕ) → HasChecked place bytes at rest bad → attribute_at at rest ≡ None → (attrs : List Attribute) × ReadsAttributes place bytes attrs rest × FirstInOrder (map value_piece attrs) bad
all_checked place at bytes rest bad h none = (h.0, subst (λ (all : List Attribute). ReadsAttributes place bytes all rest) (append-nil h.0) (h.2 [] rest (refl, none)), h.1)

-- ---- tags

pub tag_checked : (place : ℕ) (is_empty : Bool) (bytes name rest : List ℕ) (attrs : List Attribute) (bad : Option ℕ) → ReadsTag place bytes name attrs (close_of is_empty ++ rest) → FirstInOrder (map value_piece attrs) bad
    → (u : PlainUnit) × FindsUnit place (60 ∷ bytes) u rest × FirstBadIn (pieces_of u) bad
tag_checked place true bytes name rest attrs bad h first =
    let found = tag_finds place true bytes name rest attrs h in
    let placed = found_placed place (60 ∷ bytes) _ rest found in
    (_, found, first_is (map value_piece attrs) _ _ bad placed.follows first)
tag_checked place false bytes name rest attrs bad h first =
    let found = tag_finds place false bytes name rest attrs h in
    let placed = found_placed place (60 ∷ bytes) _ rest found in
    (_, found, first_is (map value_piece attrs) _ _ bad placed.follows first)
