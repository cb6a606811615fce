-- A stable sort gives what an insertion of one after another gives.
use Rattle.std.proofs.Common.{◌≡◌, ℕ, suc, ◌<◌, ◌≤◌, Bool, false, true, cond, not, List, [], ◌∷◌, length, get_or, refl, sym, ap, subst, ◌∙◌, arith}
use Rattle.std.specs.Prelude.{◌&&◌, ⊤, if◌then◌else◌}
use Rattle.std.specs.Cmp.{IsStrictWeakOrder}
use Rattle.std.specs.List.{AllByRecursion, filter}
use Rattle.std.specs.List.Sorted.{IsSortedBy, IsStableBy, ties}
use Rattle.std.proofs.lemmas.Bool.{and_parts, not-true}
use Rattle.std.proofs.lemmas.List.Elements.{recursion_from_All}
use Rattle.std.proofs.lemmas.List.Sorted.{sorted_far}
use Rattle.named.proofs.Lists.{each_kept, each_weaker}

-- an element in its place among others, before those that tie with it
abbrev pub inserted : {X : Type 0} → (X → X → Bool) → X → List X → List X
inserted lt a [] = a ∷ []
inserted lt a (b ∷ bs) = if lt b a then b ∷ inserted lt a bs else a ∷ b ∷ bs

-- elements in order, by an insertion of each; those that tie keep their order
abbrev pub ordered : {X : Type 0} → (X → X → Bool) → List X → List X
ordered lt [] = []
ordered lt (a ∷ bs) = inserted lt a (ordered lt bs)

-- two elements of which a filter keeps one at the most may change places
exchanged : {X : Type 0} (p q : Bool) (a b : X) (rest : List X) → (p ≡ true → q ≡ true → ⊥) → cond q (b ∷ cond p (a ∷ rest) rest) (cond p (a ∷ rest) rest) ≡ cond p (a ∷ cond q (b ∷ rest) rest) (cond q (b ∷ rest) rest)
exchanged true true a b rest h = absurd (h refl refl)
exchanged true false a b rest h = refl
exchanged false true a b rest h = refl
exchanged false false a b rest h = refl

module _ {X : Type 0} (lt : X → X → Bool) where
  -- none of these is below an element
  abbrev pub NoneBelow : X → List X → Type 0
  NoneBelow a bs = AllByRecursion (λ (b : X). lt b a ≡ false) bs

  -- no element is below one that stands before it
  abbrev pub Rises : List X → Type 0
  Rises [] = ⊤
  Rises (a ∷ bs) = NoneBelow a bs × Rises bs

  -- a list of which no later element is below an earlier one rises
  rises_from_far : (xs : List X) → ((i j : ℕ) (d : X) → i ≤ j → j < length xs → lt (get_or xs j d) (get_or xs i d) ≡ false) → Rises xs
  rises_from_far [] far = tt
  rises_from_far (x ∷ xs) far = (
    recursion_from_All (λ (b : X). lt b x ≡ false) xs (λ k d below. far 0 (suc k) d (omega arith) (omega arith)),
    rises_from_far xs (λ i j d le below. far (suc i) (suc j) d (omega arith) (omega arith)),
  )

  module _ (o : IsStrictWeakOrder lt) where
    -- a sorted list rises
    pub rises_from_sorted : (xs : List X) → IsSortedBy lt xs → Rises xs
    rises_from_sorted xs up = rises_from_far xs (sorted_far lt o xs up)

    -- no element is below itself
    not_below_itself : (x : X) → lt x x ≡ false
    not_below_itself x = elim (lt x x) as (λ b. (b ≡ true → b ≡ false) → b ≡ false) [ true ↦ λ h. h refl | false ↦ λ h. refl ] (o.one_way x x)

    -- two elements of which neither is below the other one tie
    ties_from : (x y : X) → lt x y ≡ false → lt y x ≡ false → ties lt x y ≡ true
    ties_from x y e f = λ i. not (e i) && not (f i)

    -- of elements that tie neither is below the other one
    not_below : (x y : X) → ties lt x y ≡ true → (lt x y ≡ false) × (lt y x ≡ false)
    not_below x y h = let parts = and_parts (not (lt x y)) (not (lt y x)) h in (not-true (lt x y) parts.0, not-true (lt y x) parts.1)

    -- an element that a filter of a list gives first is not below what none of the list is below
    first_not_below : (a x : X) (p : X → Bool) (rest bs : List X) → NoneBelow a bs → x ∷ rest ≡ filter p bs → lt x a ≡ false
    first_not_below a x p rest bs h e = (subst (NoneBelow a) (sym e) (each_kept (λ (b : X). lt b a ≡ false) p bs h)).0

    -- a filter of what ties with an element keeps one that does
    kept_first : (x y : X) (ys : List X) → ties lt x y ≡ true → filter (ties lt x) (y ∷ ys) ≡ y ∷ filter (ties lt x) ys
    kept_first x y ys e = ap (λ (b : Bool). cond b (y ∷ filter (ties lt x) ys) (filter (ties lt x) ys)) e

    -- an element ties with itself
    ties_itself : (x : X) → ties lt x x ≡ true
    ties_itself x = ties_from x x (not_below_itself x) (not_below_itself x)

    -- where a filter gives the same with one element before two lists, it gives the same of these
    same_rest : (b : Bool) (x : X) (xs ys : List X) → cond b (x ∷ xs) xs ≡ cond b (x ∷ ys) ys → xs ≡ ys
    same_rest true x xs ys e = cc
    same_rest false x xs ys e = e

    -- the first elements of two lists that rise, with the same elements that tie with each, are one
    same_first : (x y : X) (xs ys : List X) → Rises (x ∷ xs) → Rises (y ∷ ys) → IsStableBy lt (x ∷ xs) (y ∷ ys) → y ≡ x
    same_first x y xs ys up higher same =
        let of_x : x ∷ filter (ties lt x) xs ≡ filter (ties lt x) (y ∷ ys) = sym (same x ∙ kept_first x x xs (ties_itself x)) in
        let of_y : y ∷ filter (ties lt y) ys ≡ filter (ties lt y) (x ∷ xs) = sym (kept_first y y ys (ties_itself y)) ∙ same y in
        let x_y : lt x y ≡ false = first_not_below y x (ties lt x) (filter (ties lt x) xs) (y ∷ ys) (not_below_itself y, higher.0) of_x in
        let y_x : lt y x ≡ false = first_not_below x y (ties lt y) (filter (ties lt y) ys) (x ∷ xs) (not_below_itself x, up.0) of_y in
        let both : y ∷ filter (ties lt x) ys ≡ x ∷ filter (ties lt x) xs = sym (kept_first x y ys (ties_from x y x_y y_x)) ∙ sym of_x in
        cc

    -- two lists that rise, with the same elements that tie with each, are one
    pub one_order : (xs ys : List X) → Rises xs → Rises ys → IsStableBy lt xs ys → ys ≡ xs
    one_order [] [] up higher same = refl
    one_order [] (y ∷ ys) up higher same = let e = sym (kept_first y y ys (ties_itself y)) ∙ same y in cc
    one_order (x ∷ xs) [] up higher same = let e = same x ∙ kept_first x x xs (ties_itself x) in cc
    one_order (x ∷ xs) (y ∷ ys) up higher same =
        let first : y ≡ x = same_first x y xs ys up higher same in
        let rest : IsStableBy lt xs ys = λ w. same_rest (ties lt w x) x (filter (ties lt w) ys) (filter (ties lt w) xs)
        (subst (λ (z : X). filter (ties lt w) (z ∷ ys) ≡ filter (ties lt w) (x ∷ xs)) first (same w)) in
        let tail : ys ≡ xs = one_order xs ys up.1 higher.1 rest in
        cc

    -- where none is below an element, none is below one that it is not below
    none_below_after : (a b : X) (bs : List X) → lt b a ≡ false → NoneBelow b bs → NoneBelow a bs
    none_below_after a b bs e h = each_weaker (λ (c : X). lt c b ≡ false) (λ (c : X). lt c a ≡ false) (λ c below. o.chain c b a below e) bs h

    -- an insertion of what is not below an element puts none below it
    none_below_inserted : (a b : X) (bs : List X) → lt a b ≡ false → NoneBelow b bs → NoneBelow b (inserted lt a bs)
    none_below_inserted a b [] e h = (e, tt)
    none_below_inserted a b (c ∷ bs) e h = elim (lt c a) as (λ t. NoneBelow b (cond t (c ∷ inserted lt a bs) (a ∷ c ∷ bs))) [
      | true ↦ (h.0, none_below_inserted a b bs e h.1)
      | false ↦ (e, h)
    ]

    -- a list still rises after an insertion
    rises_inserted : (a : X) (bs : List X) → Rises bs → Rises (inserted lt a bs)
    rises_inserted a [] up = (tt, tt)
    rises_inserted a (b ∷ bs) up = elim (lt b a) as (λ t. lt b a ≡ t → Rises (cond t (b ∷ inserted lt a bs) (a ∷ b ∷ bs))) [
      | true ↦ λ e. (none_below_inserted a b bs (o.one_way b a e) up.0, rises_inserted a bs up.1)
      | false ↦ λ e. ((e, none_below_after a b bs e up.0), up)
    ] refl

    -- an element goes before those that tie with it
    stable_inserted : (a : X) (bs : List X) → IsStableBy lt (a ∷ bs) (inserted lt a bs)
    stable_inserted a [] w = refl
    stable_inserted a (b ∷ bs) w = elim (lt b a) as (λ t. lt b a ≡ t → filter (ties lt w) (cond t (b ∷ inserted lt a bs) (a ∷ b ∷ bs)) ≡ filter (ties lt w) (a ∷ b ∷ bs)) [
      | true ↦ λ e.
          let apart : ties lt w a ≡ true → ties lt w b ≡ true → ⊥ = λ f g. let no = o.chain b w a (not_below w b g).1 (not_below w a f).0 in cc in
          ap (λ (rest : List X). cond (ties lt w b) (b ∷ rest) rest) (stable_inserted a bs w) ∙ exchanged (ties lt w a) (ties lt w b) a b (filter (ties lt w) bs) apart
      | false ↦ λ e. refl
    ] refl

    -- insertions give a list that rises
    rises_ordered : (xs : List X) → Rises (ordered lt xs)
    rises_ordered [] = tt
    rises_ordered (x ∷ xs) = rises_inserted x (ordered lt xs) (rises_ordered xs)

    -- insertions keep the order of those that tie
    stable_ordered : (xs : List X) → IsStableBy lt xs (ordered lt xs)
    stable_ordered [] w = refl
    stable_ordered (x ∷ xs) w = stable_inserted x (ordered lt xs) w ∙ ap (λ (rest : List X). cond (ties lt w x) (x ∷ rest) rest) (stable_ordered xs w)

    -- a stable sort gives what insertions give
    pub sorted_is_ordered : (xs ys : List X) → IsSortedBy lt ys → IsStableBy lt xs ys → ys ≡ ordered lt xs
    sorted_is_ordered xs ys up same = one_order (ordered lt xs) ys (rises_ordered xs) (rises_from_sorted ys up) (λ w. same w ∙ sym (stable_ordered xs w))
