-- Points that stand at the places that are kept for them.
use Rattle.std.proofs.Common.{◌≡◌, ◌≢◌, ℕ, suc, ◌<◌, ◌≤◌, ◌==◌, ◌||◌, Bool, true, false, get_or, List, [], ◌∷◌, ◌++◌, length, slice_index, slice_set, inl, inr, ap, sym, ◌∙◌, arith, length-append}
use Rattle.std.specs.List.{Contains, list_any}
use Rattle.std.proofs.lemmas.Bool.{cases_eq, cases_lt, ne_eqb}
use Rattle.std.proofs.lemmas.List.{get_or_append_left, get_or_default, get_or_push, length-set}
use Rattle.std.proofs.Common.{get_or-set_other, get_or-set_same}
use Rattle.std.proofs.lemmas.Map.Keys.{IsDistinct-from_apart}
use Rattle.std.proofs.lemmas.Map.Steps.{length-le_from_distinct_below}
use Rattle.tml_score.specs.Reached.{StandAtPlaces}

-- a number that a test finds in a list stands there
in_list : (q : ℕ) (xs : List ℕ) → list_any (λ x. q == x) xs ≡ true → (i : ℕ) × (i < length xs) × (slice_index xs i ≡ q)
in_list q [] found = absurd cc
in_list q (x ∷ xs) found = elim (cases_eq q x) [
  | inl same ↦ (0, omega arith, sym same)
  | inr other ↦
      let rest = in_list q xs (sym (ap (λ (b : Bool). b || list_any (λ y. q == y) xs) (ne_eqb q x other)) ∙ found) in
      (suc rest.0, let lt = rest.1 in omega arith, rest.2)
]

module _ (points places : List ℕ) (are : StandAtPlaces points places) where
  -- no point stands twice
  apart : (i j d : ℕ) → i < j → j < length points → (get_or points i d == get_or points j d) ≡ false
  apart i j d less lt = ne_eqb (get_or points i d) (get_or points j d) (λ same.
      let li : i < length points = omega arith in
      let one = are.placed i li in
      let two = are.placed j lt in
      let e : slice_index points i ≡ slice_index points j = get_or_default points i 0 d li ∙ same ∙ get_or_default points j d 0 lt in
      let f = ap (slice_index places) e in
      omega arith)

  -- there are no more than there can be
  pub few_placed : length points ≤ length places
  few_placed = length-le_from_distinct_below points (length places) (IsDistinct-from_apart ◌==◌ points apart) (λ q among.
      let found = in_list q points among in
      let lt = are.room found.0 found.1 in
      omega (arith, lt, found.2))

-- one point more, which was not there
pub placed_push : (points places : List ℕ) (point : ℕ) → StandAtPlaces points places → point < length places → (Contains points point → ⊥) → StandAtPlaces (points ++ point ∷ []) (slice_set places point (length points))
placed_push points places point are room new = record {
  few = omega (arith, are.few, length-set places point (length points));
  room = λ i lt. elim (cases_lt i (length points)) [
    | inl before ↦ omega (arith, old i before, are.room i before, length-set places point (length points))
    | inr last ↦ omega (arith, own i (at_end i lt last), room, length-set places point (length points))
  ];
  placed = λ i lt. elim (cases_lt i (length points)) [
    | inl before ↦
        let other : slice_index points i ≢ point = λ same. new (i, before, get_or_default points i point 0 before ∙ same) in
        ap (slice_index (slice_set places point (length points))) (old i before) ∙ get_or-set_other places point (slice_index points i) (length points) 0 other ∙ are.placed i before
    | inr last ↦
        let end = at_end i lt last in
        ap (slice_index (slice_set places point (length points))) (own i end) ∙ get_or-set_same places point (length points) 0 room ∙ end
  ];
}
  where
    at_end : (i : ℕ) → i < length (points ++ point ∷ []) → length points ≤ i → length points ≡ i
    at_end i lt last = omega (arith, lt, last, length-append points (point ∷ []))

    old : (i : ℕ) → i < length points → slice_index (points ++ point ∷ []) i ≡ slice_index points i
    old i before = get_or_append_left points (point ∷ []) 0 i before

    own : (i : ℕ) → length points ≡ i → slice_index (points ++ point ∷ []) i ≡ point
    own i last = get_or_push points point 0 i last
