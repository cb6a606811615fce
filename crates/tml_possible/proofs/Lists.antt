-- Lists of relations and of orders.
use Rattle.std.proofs.Common.{◌≡◌, ◌⊎◌, ◌↔◌, ◌&&◌, inl, inr, ℕ, zero, suc, ◌+◌, ◌<◌, Bool, true, false, Some, None, List, [], ◌∷◌, ◌++◌, length, get_or, take, refl, sym, ap, subst, ◌∙◌, arith, append-nil}
use Rattle.std.specs.Prelude.{IsTrue, cond}
use Rattle.std.specs.List.{AllByRecursion, Contains, filter, slice_get}
use Rattle.std.proofs.lemmas.List.{map-append, take_more}
use Rattle.std.proofs.lemmas.List.Elements.{Contains-append_left, Contains-push, Contains-push_cases, filter-append}
use Rattle.net_core.specs.BaseRelations.{base_rels}
use Rattle.net_core.specs.Rels.{all_rels}
use Rattle.net_core.specs.declared.rels.Rel.{Rel}
use Rattle.net_core.specs.declared.rels.Rel.TheVariants as rel
use Rattle.tml_possible.specs.Possible.{AreSome, rels_of}
use Rattle.tml_possible.specs.declared.timelines.PossibleItem.{PossibleItem}

-- two tests that are both true
pub both_true : (r s : Bool) (P Q : Type 0) → (IsTrue r ↔ P) → (IsTrue s ↔ Q) → IsTrue (r && s) ↔ (P × Q)
both_true true true P Q p q = (λ h. (p.0 refl, q.0 refl), λ h. refl)
both_true true false P Q p q = (λ h. let e : false ≡ true = h in cc, λ h. q.1 h.1)
both_true false s P Q p q = (λ h. let e : false ≡ true = h in cc, λ h. p.1 h.0)

-- ---- some of a list, in its order

-- they are some without the first of them
without_first : (r : Rel) (rels bases : List Rel) → AreSome (r ∷ rels) bases → AreSome rels bases
without_first r rels [] h = cc
without_first r rels (base ∷ bases) h = elim h [
  | inl later ↦ inl (without_first r rels bases later)
  | inr here ↦ let same : rels ≡ here.0 = let both = here.1 in cc in inl (subst (λ (rest : List Rel). AreSome rest bases) (sym same) here.2)
]

-- the first of them is the next one, or is not
pub first_is_next : (r base : Rel) (rels bases : List Rel) → r ≡ base → AreSome rels bases ↔ AreSome (r ∷ rels) (base ∷ bases)
first_is_next r base rels bases e = (
  λ h. inr (rels, ap (λ (s : Rel). s ∷ rels) e, h),
  λ h. elim h [
    | inl later ↦ without_first r rels bases later
    | inr here ↦ let same : rels ≡ here.0 = let both = here.1 in cc in subst (λ (rest : List Rel). AreSome rest bases) (sym same) here.2
  ],
)

none_are_some : (bases : List Rel) → AreSome [] bases
none_are_some [] = refl
none_are_some (base ∷ bases) = inl (none_are_some bases)

pub empty_are_some : (items : List PossibleItem) (bases : List Rel) → ¬ (0 < length items) → AreSome (rels_of items) bases
empty_are_some [] bases empty = none_are_some bases
empty_are_some (item ∷ items) bases empty = absurd (empty (omega arith))

-- ---- what is true of the first elements of a list

pub all_first : {A : Type 0} (P : A → Type 0) (xs : List A) (k : ℕ) → AllByRecursion P xs → AllByRecursion P (take k xs)
all_first P xs zero all = tt
all_first P [] (suc k) all = tt
all_first P (x ∷ xs) (suc k) all = (all.0, all_first P xs k all.1)

pub all_at : {A : Type 0} (P : A → Type 0) (xs : List A) (k : ℕ) (x : A) → slice_get xs k ≡ Some x → AllByRecursion P xs → P x
all_at P [] k x at all = cc
all_at P (y ∷ xs) zero x at all = let same : y ≡ x = cc in subst P same all.0
all_at P (y ∷ xs) (suc k) x at all = all_at P xs k x at all.1

one_further : {A : Type 0} (P : A → Type 0) (xs : List A) (k : ℕ) (x : A) → slice_get xs k ≡ Some x → AllByRecursion P (take (suc k) xs) ↔ (AllByRecursion P (take k xs) × P x)
one_further P [] k x at = let none : None ≡ Some x = at in cc
one_further P (y ∷ xs) zero x at = let same : y ≡ x = cc in (λ h. (tt, subst P same h.0), λ h. (subst P (sym same) h.1, tt))
one_further P (y ∷ xs) (suc k) x at = let rest = one_further P xs k x at in (λ h. let both = rest.0 h.1 in ((h.0, both.0), both.1), λ h. (h.0.0, rest.1 (h.0.1, h.1)))

pub all_further : {A : Type 0} (P : A → Type 0) (xs : List A) (k : ℕ) (x : A) → slice_get xs k ≡ Some x → AllByRecursion P (take (k + 1) xs) ↔ (AllByRecursion P (take k xs) × P x)
all_further P xs k x at = subst (λ (n : ℕ). AllByRecursion P (take n xs) ↔ (AllByRecursion P (take k xs) × P x)) (let e : suc k ≡ k + 1 = omega arith in e) (one_further P xs k x at)

-- ---- relations that pass a test

-- of all relations only base relations pass it
pub only_bases : (test : Rel → Bool) → test rel.During ≡ false → test rel.DuringInv ≡ false → test rel.Identity ≡ false → filter test all_rels ≡ filter test base_rels
only_bases test d i e = rw (d, i, e) refl

-- one relation more
pub filter_further : (test : Rel → Bool) (xs : List Rel) (k : ℕ) (x : Rel) → k < length xs → get_or xs k rel.Before ≡ x → filter test (take (k + 1) xs) ≡ filter test (take k xs) ++ filter test (x ∷ [])
filter_further test xs k x lt is = ap (filter test) (take_more xs k rel.Before lt ∙ ap (λ (y : Rel). take k xs ++ y ∷ []) is) ∙ filter-append test (take k xs) (x ∷ [])

-- the first elements of a list and the next one
pub there_further : (xs : List Rel) (k : ℕ) (x r : Rel) → k < length xs → get_or xs k rel.Before ≡ x → Contains (take (k + 1) xs) r ↔ (Contains (take k xs) r ⊎ (r ≡ x))
there_further xs k x r lt is =
    let e = take_more xs k rel.Before lt ∙ ap (λ (y : Rel). take k xs ++ y ∷ []) is in (
      λ h. elim (Contains-push_cases (take k xs) x r (subst (λ (ys : List Rel). Contains ys r) e h)) [
        | inl old ↦ inl old
        | inr new ↦ inr (sym new)
      ],
      λ h. subst (λ (ys : List Rel). Contains ys r) (sym e) (elim h [
        | inl old ↦ Contains-append_left (take k xs) (x ∷ []) r old
        | inr new ↦ subst (λ (s : Rel). Contains (take k xs ++ x ∷ []) s) (sym new) (Contains-push (take k xs) x)
      ]),
    )

-- one relation that passes the test is one item more
pub item_more : (test : Rel → Bool) (items : List PossibleItem) (item : PossibleItem) (k : ℕ) → k < length all_rels → get_or all_rels k rel.Before ≡ item.rel → rels_of items ≡ filter test (take k all_rels) → test item.rel ≡ true
    → rels_of (items ++ item ∷ []) ≡ filter test (take (k + 1) all_rels)
item_more test items item k lt is before passes =
    map-append (λ (item : PossibleItem). item.rel) items (item ∷ [])
    ∙ ap (λ (rels : List Rel). rels ++ item.rel ∷ []) before
    ∙ ap (λ (rels : List Rel). filter test (take k all_rels) ++ rels) (sym (ap (λ (b : Bool). cond b (item.rel ∷ []) []) passes))
    ∙ sym (filter_further test all_rels k item.rel lt is)

-- and else none
pub no_item_more : (test : Rel → Bool) (items : List PossibleItem) (k : ℕ) (x : Rel) → k < length all_rels → get_or all_rels k rel.Before ≡ x → rels_of items ≡ filter test (take k all_rels) → test x ≡ false → rels_of items ≡ filter test (take (k + 1) all_rels)
no_item_more test items k x lt is before fails =
    before
    ∙ sym (append-nil (filter test (take k all_rels)))
    ∙ ap (λ (rels : List Rel). filter test (take k all_rels) ++ rels) (sym (ap (λ (b : Bool). cond b (x ∷ []) []) fails))
    ∙ sym (filter_further test all_rels k x lt is)
