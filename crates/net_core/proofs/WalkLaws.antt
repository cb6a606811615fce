-- Walks, and what they say of timelines.
use Rattle.std.proofs.Common.{◌≡◌, ◌⊎◌, inl, inr, ℕ, zero, suc, take, Some, ◌<◌, ◌≤◌, Bool, true, false, ◌||◌, List, [], ◌∷◌, ◌++◌, length, refl, sym, ap, subst, ◌∙◌, arith}
use Rattle.std.specs.List.{Contains}
use Rattle.std.proofs.lemmas.Bool.{cases_eq}
use Rattle.std.proofs.lemmas.List.Folds.{list_any-append}
use Rattle.net_core.specs.Atoms.{IsInOrder}
use Rattle.net_core.specs.Fits.{FitsWith}
use Rattle.net_core.specs.Nets.{PlainNet}
use Rattle.net_core.specs.Relations.{Timeline}
use Rattle.net_core.specs.Steps.{GoesBy, Uses, atom_of, has_strict, is_strict_order, link_of}
use Rattle.net_core.specs.Clashes.{Clashes}
use Rattle.net_core.specs.Walks.{GoesOver, IsClosedWalk, HasWalk, IsJoined, IsWalk}
use Rattle.net_core.specs.declared.atom.Atom.{Atom}
use Rattle.net_core.specs.declared.step.Step.{Step}
use Rattle.net_core.specs.declared.step.Step.TheVariants.{Link, Span, Calendar}
use Rattle.net_core.proofs.StepLaws.{link_within, step_kept}

-- an order and then another one are one together, strict where one of them is
pub in_order_then : (o r : Bool) (a b c : ℕ) → IsInOrder o a b → IsInOrder r b c → IsInOrder (o || r) a c
in_order_then true true a b c h k = omega arith
in_order_then true false a b c h k = omega arith
in_order_then false true a b c h k = omega arith
in_order_then false false a b c h k = omega arith

-- a strict order is one that is not strict too
pub in_order_weaker : (o r : Bool) (a b : ℕ) → (o ≡ true → r ≡ true) → IsInOrder r a b → IsInOrder o a b
in_order_weaker true true a b h k = k
in_order_weaker true false a b h k = let e = h refl in cc
in_order_weaker false true a b h k = omega arith
in_order_weaker false false a b h k = k

-- whether a step is strict, by its order
step_strict : (net : PlainNet) (Chosen : ℕ → Type 0) (step : Step) (a : Atom) → GoesBy net Chosen step a → is_strict_order (atom_of net step) ≡ a.strict
step_strict net Chosen step a goes = ap is_strict_order goes.0

module _ (net : PlainNet) (Chosen : ℕ → Type 0) where
  -- where joined steps lead is later in a timeline that fits, strictly where one of them is strict
  pub joined_kept : (t : Timeline) (steps : List Step) (x y : ℕ) → FitsWith net Chosen t → IsJoined net Chosen steps x y → IsInOrder (has_strict net steps) (t x) (t y)
  joined_kept t [] x y fits joined = subst (λ (z : ℕ). t x ≤ t z) joined (omega arith)
  joined_kept t (step ∷ steps) x y fits joined =
      let a = joined.0 in
      let first : IsInOrder a.strict (t x) (t a.to) = subst (λ (z : ℕ). IsInOrder a.strict (t z) (t a.to)) joined.2 (step_kept net Chosen t step a fits joined.1) in
      let both = in_order_then a.strict (has_strict net steps) (t x) (t a.to) (t y) first (joined_kept t steps a.to y fits joined.3) in
      subst (λ (b : Bool). IsInOrder (b || has_strict net steps) (t x) (t y)) (sym (step_strict net Chosen step a joined.1)) both

  -- what a walk gives holds in each timeline that fits
  pub walk_kept : (t : Timeline) (steps : List Step) (x y : ℕ) (strict : Bool) → FitsWith net Chosen t → IsWalk net Chosen x y strict steps → IsInOrder strict (t x) (t y)
  walk_kept t steps x y strict fits walk = in_order_weaker strict (has_strict net steps) (t x) (t y) walk.1 (joined_kept t steps x y fits walk.0)

  -- steps, and then others
  pub joined_then : (steps more : List Step) (x y z : ℕ) → IsJoined net Chosen steps x y → IsJoined net Chosen more y z → IsJoined net Chosen (steps ++ more) x z
  joined_then [] more x y z first second = subst (λ (w : ℕ). IsJoined net Chosen more w z) (sym first) second
  joined_then (step ∷ steps) more x y z first second = (first.0, first.1, first.2, joined_then steps more first.0.to y z first.3 second)

  -- one step more
  pub joined_push : (steps : List Step) (step : Step) (a : Atom) (x y : ℕ) → IsJoined net Chosen steps x y → GoesBy net Chosen step a → a.from ≡ y → IsJoined net Chosen (steps ++ step ∷ []) x a.to
  joined_push steps step a x y joined goes from = joined_then steps (step ∷ []) x y a.to joined (a, goes, from, refl)

  -- joined steps end at one point
  pub one_end : (steps : List Step) (x y z : ℕ) → IsJoined net Chosen steps x y → IsJoined net Chosen steps x z → y ≡ z
  one_end [] x y z h k = sym h ∙ k
  one_end (step ∷ steps) x y z h k =
      let same : h.0 ≡ k.0 = let e = h.1.0 in let f = k.1.0 in cc in
      one_end steps h.0.to y z h.3 (subst (λ (a : Atom). IsJoined net Chosen steps a.to z) (sym same) k.3)

  -- the first steps of joined ones are joined
  pub joined_take : (steps : List Step) (x y k : ℕ) → IsJoined net Chosen steps x y → (z : ℕ) × IsJoined net Chosen (take k steps) x z
  joined_take steps x y zero joined = (x, refl)
  joined_take [] x y (suc k) joined = (x, refl)
  joined_take (step ∷ steps) x y (suc k) joined =
      let rest = joined_take steps joined.0.to y k joined.3 in
      (rest.0, (joined.0, joined.1, joined.2, rest.1))

  -- where more steps follow, those before them lead to where the first of them begins
  pub joined_split : (steps more : List Step) (x z : ℕ) → IsJoined net Chosen (steps ++ more) x z → (y : ℕ) × IsJoined net Chosen steps x y × IsJoined net Chosen more y z
  joined_split [] more x z joined = (x, refl, joined)
  joined_split (step ∷ steps) more x z joined =
      let rest = joined_split steps more joined.0.to z joined.3 in
      (rest.0, (joined.0, joined.1, joined.2, rest.1), rest.2)

-- steps over links of a set are steps over those of a larger one
uses_more : (Chosen Other : ℕ → Type 0) (step : Step) → ((k : ℕ) → Chosen k → Other k) → Uses Chosen step → Uses Other step
uses_more Chosen Other (Link k i) more uses = more k uses
uses_more Chosen Other (Span i) more uses = tt
uses_more Chosen Other (Calendar p q) more uses = tt

pub joined_more : (net : PlainNet) (Chosen Other : ℕ → Type 0) (steps : List Step) (x y : ℕ) → ((k : ℕ) → Chosen k → Other k) → IsJoined net Chosen steps x y → IsJoined net Other steps x y
joined_more net Chosen Other [] x y more joined = joined
joined_more net Chosen Other (step ∷ steps) x y more joined =
    (joined.0, (joined.1.0, uses_more Chosen Other step more joined.1.1), joined.2, joined_more net Chosen Other steps joined.0.to y more joined.3)

-- a step uses the link that it goes over, and no other one
pub uses_own : (Other : ℕ → Type 0) (step : Step) → ((k : ℕ) → link_of step ≡ Some k → Other k) → Uses Other step
uses_own Other (Link k i) own = own k refl
uses_own Other (Span i) own = tt
uses_own Other (Calendar p q) own = tt

-- steps are joined over the links that they go over
pub joined_over : (net : PlainNet) (Chosen Other : ℕ → Type 0) (steps : List Step) (x y : ℕ) → IsJoined net Chosen steps x y → ((k : ℕ) → GoesOver steps k → Other k) → IsJoined net Other steps x y
joined_over net Chosen Other [] x y joined over = joined
joined_over net Chosen Other (step ∷ steps) x y joined over = (
  joined.0,
  (joined.1.0, uses_own Other step (λ k e. over k (step, (zero, omega arith, refl), e))),
  joined.2,
  joined_over net Chosen Other steps joined.0.to y joined.3 (λ k goes. over k (goes.0, (suc goes.1.0, omega (arith, goes.1.1), goes.1.2), goes.2)),
)

-- the same of closed walks
pub closed_walk_more : (net : PlainNet) (Chosen Other : ℕ → Type 0) (steps : List Step) → ((k : ℕ) → Chosen k → Other k) → IsClosedWalk net Chosen steps → IsClosedWalk net Other steps
closed_walk_more net Chosen Other steps more closed = (closed.0, (joined_more net Chosen Other steps closed.0 closed.0 more closed.1.0, closed.1.1))

pub closed_walk_over : (net : PlainNet) (Chosen Other : ℕ → Type 0) (steps : List Step) → ((k : ℕ) → GoesOver steps k → Other k) → IsClosedWalk net Chosen steps → IsClosedWalk net Other steps
closed_walk_over net Chosen Other steps over closed = (closed.0, (joined_over net Chosen Other steps closed.0 closed.0 closed.1.0 over, closed.1.1))

-- where a walk is closed no timeline fits
pub closed_walk_clashes : (net : PlainNet) (Chosen : ℕ → Type 0) (steps : List Step) → IsClosedWalk net Chosen steps → Clashes net Chosen
closed_walk_clashes net Chosen steps closed t fits =
    let less : t closed.0 < t closed.0 = walk_kept net Chosen t steps closed.0 closed.0 true fits closed.1 in omega arith

-- each of joined steps goes by an order
pub step_goes : (net : PlainNet) (Chosen : ℕ → Type 0) (steps : List Step) (x y : ℕ) (step : Step) → IsJoined net Chosen steps x y → Contains steps step → (a : Atom) × GoesBy net Chosen step a
step_goes net Chosen [] x y step joined (i, lt, e) = absurd (omega (arith, lt))
step_goes net Chosen (first ∷ steps) x y step joined (zero, lt, e) = (joined.0, subst (λ (s : Step). GoesBy net Chosen s joined.0) e joined.1)
step_goes net Chosen (first ∷ steps) x y step joined (suc i, lt, e) = step_goes net Chosen steps joined.0.to y step joined.3 (i, omega (arith, lt), e)

-- joined steps go over links of the net only
pub over_links : (net : PlainNet) (Chosen : ℕ → Type 0) (steps : List Step) (x y k : ℕ) → IsJoined net Chosen steps x y → GoesOver steps k → k < length net.links
over_links net Chosen steps x y k joined (step, has, is) = let goes = step_goes net Chosen steps x y step joined has in link_within net step goes.0 k goes.1.0 is

-- and over those of the set only
pub over_chosen : (net : PlainNet) (Chosen : ℕ → Type 0) (steps : List Step) (x y k : ℕ) → IsJoined net Chosen steps x y → GoesOver steps k → Chosen k
over_chosen net Chosen steps x y k joined (step, has, is) = uses_it step (step_goes net Chosen steps x y step joined has).1.1 is
  where
    uses_it : (step : Step) → Uses Chosen step → link_of step ≡ Some k → Chosen k
    uses_it (Link j i) uses e = let same : j ≡ k = cc in subst Chosen same uses
    uses_it (Span i) uses e = absurd cc
    uses_it (Calendar p q) uses e = absurd cc

-- whether steps go over a link
pub over_or_not : (steps : List Step) (k : ℕ) → GoesOver steps k ⊎ ¬ GoesOver steps k
over_or_not [] k = inr (λ over. omega (arith, over.1.1))
over_or_not (step ∷ steps) k = elim (by_step step) [
  | inl e ↦ inl (step, (zero, omega arith, refl), e)
  | inr not ↦ elim (over_or_not steps k) [
    | inl over ↦ inl (over.0, (suc over.1.0, omega (arith, over.1.1), over.1.2), over.2)
    | inr none ↦ inr (neither not none)
  ]
]
  where
    by_number : (j i : ℕ) → (link_of (Link j i) ≡ Some k) ⊎ (link_of (Link j i) ≡ Some k → ⊥)
    by_number j i = elim (cases_eq j k) [
      | inl e ↦ inl (ap (λ (n : ℕ). Some n) e)
      | inr ne ↦ inr (λ e. let same : j ≡ k = cc in ne same)
    ]

    by_step : (step : Step) → (link_of step ≡ Some k) ⊎ (link_of step ≡ Some k → ⊥)
    by_step (Link j i) = by_number j i
    by_step (Span i) = inr (λ e. cc)
    by_step (Calendar p q) = inr (λ e. cc)

    neither : (link_of step ≡ Some k → ⊥) → (GoesOver steps k → ⊥) → GoesOver (step ∷ steps) k → ⊥
    neither not none (other, (zero, lt, e), is) = not (ap link_of e ∙ is)
    neither not none (other, (suc j, lt, e), is) = none (other, (j, omega (arith, lt), e), is)

-- a list about one of its elements
contains_split : {X : Type 0} (xs : List X) (x : X) → Contains xs x → (before : List X) × (after : List X) × (xs ≡ before ++ x ∷ after)
contains_split [] x (k, lt, e) = absurd (omega (arith, lt))
contains_split {X} (y ∷ xs) x (zero, lt, e) = ([], xs, ap (λ (z : X). z ∷ xs) e)
contains_split {X} (y ∷ xs) x (suc k, lt, e) =
    let rest = contains_split xs x (k, omega (arith, lt), e) in
    (y ∷ rest.0, rest.1, ap (λ (l : List X). y ∷ l) rest.2)

or_swap : (a b : Bool) → (a || b) ≡ true → (b || a) ≡ true
or_swap true true e = refl
or_swap true false e = refl
or_swap false b e = rw e refl

-- a closed walk can begin with each of its steps
pub closed_walk_from : (net : PlainNet) (Chosen : ℕ → Type 0) (steps : List Step) (step : Step) (a : Atom) → IsClosedWalk net Chosen steps → Contains steps step → atom_of net step ≡ Some a
    → HasWalk net Chosen a.from a.from true
closed_walk_from net Chosen steps step a closed has is =
    let cut = contains_split steps step has in
    let before = cut.0 in
    let more = step ∷ cut.1 in
    let x = closed.0 in
    let parts = joined_split net Chosen before more x x (subst (λ (all : List Step). IsJoined net Chosen all x x) cut.2 closed.1.0) in
    let same : parts.2.0 ≡ a = let e = parts.2.1.0 in cc in
    let here : parts.0 ≡ a.from = sym parts.2.2 ∙ ap (λ (b : Atom). b.from) same in
    let strict = subst (λ (all : List Step). has_strict net all ≡ true) cut.2 (closed.1.1 refl) in
    let by = λ (s : Step). is_strict_order (atom_of net s) in (
      more ++ before,
      (
        subst (λ (y : ℕ). IsJoined net Chosen (more ++ before) y y) here (joined_then net Chosen more before parts.0 x parts.0 parts.2 parts.1),
        λ e. list_any-append by more before ∙ or_swap (has_strict net before) (has_strict net more) (sym (list_any-append by before more) ∙ strict),
      ),
    )
