-- Where the items of each point begin.
use Rattle.std.proofs.Common.{◌≡◌, ◌↔◌, ◌⊎◌, ℕ, ◌+◌, ◌-◌, ◌<◌, ◌≤◌, nat_lt, true, false, inl, inr, List, [], ◌∷◌, ◌++◌, get_or, length, take, drop, slice_index, sym, ap, subst, ◌∙◌, arith, length-drop, length-take}
use Rattle.std.specs.List.{Contains}
use Rattle.std.specs.List.Sorted.{IsPartitionPoint}
use Rattle.std.proofs.lemmas.Bool.{cases_lt, ltb-true, ltb-false}
use Rattle.std.proofs.lemmas.List.{get_or-drop, get_or-take, get_or_append_left, get_or_push, length_push}
use Rattle.point_index.specs.Index.{AreNumbersOf, AreStarts}

-- an item of a list that has some
one_of : {X : Type 0} (xs : List X) → 0 < length xs → X
one_of [] some = absurd (omega (arith, some))
one_of (x ∷ xs) some = x

module _ {X : Type 0} (point_of : X → ℕ) (items : List X) where
  -- the items with lower points are those before a place
  abbrev pub IsCut : ℕ → ℕ → Type 0
  IsCut p place = IsPartitionPoint (λ (item : X). nat_lt (point_of item) p ≡ true) (λ (item : X). nat_lt (point_of item) p ≡ false) items place

  module _ (p first after : ℕ) (below : IsCut p first) (upto : IsCut (p + 1) after) (first_in : first ≤ length items) (after_in : after ≤ length items) where
    low : (k : ℕ) (d : X) → k < first → point_of (get_or items k d) < p
    low k d lt = ltb-true _ p (below.0 k d (omega arith) lt)

    high : (k : ℕ) (d : X) → first ≤ k → k < length items → p ≤ point_of (get_or items k d)
    high k d ge lt = let not = ltb-false _ p (below.1 k d ge lt) in omega (arith, not)

    not_higher : (k : ℕ) (d : X) → k < after → point_of (get_or items k d) ≤ p
    not_higher k d lt = let is = ltb-true _ (p + 1) (upto.0 k d (omega arith) lt) in omega (arith, is)

    higher : (k : ℕ) (d : X) → after ≤ k → k < length items → p < point_of (get_or items k d)
    higher k d ge lt = let not = ltb-false _ (p + 1) (upto.1 k d ge lt) in omega (arith, not)

    -- between two cuts lie the items of a point
    numbers : AreNumbersOf point_of items p first after
    numbers = record {
      rising = elim (cases_lt after first) [
        | inl early ↦ let d = one_of items (omega (arith, early, first_in)) in absurd (omega (arith, low after d early, higher after d (omega arith) (omega (arith, early, first_in))))
        | inr late ↦ late
      ];
      within = after_in;
      exact = λ k d lt. (
        λ h. omega (arith, high k d h.0 lt, not_higher k d h.1),
        λ is. (
          elim (cases_lt k first) [ inl early ↦ absurd (omega (arith, is, low k d early)) | inr late ↦ late ],
          elim (cases_lt k after) [ inl early ↦ early | inr late ↦ absurd (omega (arith, is, higher k d late lt)) ],
        ),
      );
    }

  -- the places of all points, and one after them
  pub record AreCuts (points : ℕ) (starts : List ℕ) : Type 0 where
    pub size : length starts ≡ points
    pub cut : (p : ℕ) → p < points → IsCut p (slice_index starts p)
    pub within : (p : ℕ) → p < points → slice_index starts p ≤ length items

  pub no_cuts : (starts : List ℕ) → starts ≡ [] → AreCuts 0 starts
  no_cuts starts empty = record { size = ap length empty; cut = λ p lt. absurd (omega (arith, lt)); within = λ p lt. absurd (omega (arith, lt)) }

  pub one_cut_more : (points place : ℕ) (starts new : List ℕ) → AreCuts points starts → IsCut points place → place ≤ length items → new ≡ starts ++ place ∷ [] → AreCuts (points + 1) new
  one_cut_more points place starts new cuts cut within is =
      let size = cuts.size in
      let at : (p : ℕ) → p < points + 1 → ((p < points) × (slice_index new p ≡ slice_index starts p)) ⊎ ((p ≡ points) × (slice_index new p ≡ place)) = λ p lt. elim (cases_lt p points) [
        | inl before ↦ inl (before, ap (λ (xs : List ℕ). slice_index xs p) is ∙ get_or_append_left starts (place ∷ []) 0 p (omega (arith, before, size)))
        | inr last ↦ let same : p ≡ points = omega (arith, last, lt) in inr (same, ap (λ (xs : List ℕ). slice_index xs p) is ∙ get_or_push starts place 0 p (size ∙ sym same))
      ] in record {
        size = ap length is ∙ length_push starts place ∙ ap (λ (n : ℕ). n + 1) size;
        cut = λ p lt. elim (at p lt) [
          | inl old ↦ subst (IsCut p) (sym old.1) (cuts.cut p old.0)
          | inr last ↦ subst (IsCut p) (sym last.1) (subst (λ (q : ℕ). IsCut q place) (sym last.0) cut)
        ];
        within = λ p lt. elim (at p lt) [
          | inl old ↦ subst (λ (n : ℕ). n ≤ length items) (sym old.1) (cuts.within p old.0)
          | inr last ↦ subst (λ (n : ℕ). n ≤ length items) (sym last.1) within
        ];
      }

  pub cuts_are_starts : (points : ℕ) (starts : List ℕ) → AreCuts (points + 1) starts → AreStarts point_of points items starts
  cuts_are_starts points starts cuts = record {
    size = cuts.size;
    numbers = λ p lt. numbers p (slice_index starts p) (slice_index starts (p + 1)) (cuts.cut p (omega (arith, lt))) (cuts.cut (p + 1) (omega (arith, lt))) (cuts.within p (omega (arith, lt))) (cuts.within (p + 1) (omega (arith, lt)));
  }

  -- the items from the first number of a point up to the one after the last are those of the point
  pub stretch_is : (p first after : ℕ) → AreNumbersOf point_of items p first after → (item : X) → Contains (take (after - first) (drop first items)) item ↔ (Contains items item × (point_of item ≡ p))
  stretch_is p first after is item = (
    λ (k, lt, at).
        let size = length-take (after - first) (drop first items) in
        let rest = length-drop first items in
        let short : k < after - first = omega (arith, lt, size) in
        let here : get_or items (first + k) item ≡ item = sym (get_or-drop first items k item) ∙ sym (get_or-take (after - first) (drop first items) k item short) ∙ at in
        let inside : first + k < length items = omega (arith, short, is.within) in
        ((first + k, inside, here), ap point_of (sym here) ∙ (is.exact (first + k) item inside).0 (omega (arith, short), omega (arith, short))),
    λ ((k, lt, at), point).
        let between = (is.exact k item lt).1 (ap point_of at ∙ point) in
        let same : first + (k - first) ≡ k = omega (arith, between.0) in
        let size = length-take (after - first) (drop first items) in
        let rest = length-drop first items in
        let short : k - first < after - first = omega (arith, between) in
        (k - first, omega (arith, size, rest, short, is.within), get_or-take (after - first) (drop first items) (k - first) item short ∙ get_or-drop first items (k - first) item ∙ ap (λ n. get_or items n item) same ∙ at),
  )
