-- A walk can be short: what leads from a state back to it is cut out, until each state is visited once.
use Rattle.std.proofs.Common.{◌≡◌, ℕ, zero, suc, ◌*◌, ◌<◌, ◌≤◌, Bool, true, false, not, ◌&&◌, ◌||◌, List, [], ◌∷◌, length, refl, sym, ap, subst, ◌∙◌, arith, ◌⊎◌, inl, inr}
use Rattle.std.specs.Prelude.{nat_eq}
use Rattle.std.proofs.lemmas.Bool.{cases_eq, eqb-true, eq-eqb}
use Rattle.net_core.specs.Nets.{IsNet, PlainNet, points}
use Rattle.net_core.specs.Steps.{GoesBy, has_strict, is_strict_order, atom_of}
use Rattle.net_core.specs.Walks.{HasWalk, IsJoined, IsWalk, Kept}
use Rattle.net_core.specs.declared.atom.Atom.{Atom}
use Rattle.net_core.specs.declared.step.Step.{Step}
use Rattle.net_core.proofs.StepLaws.{step_in_range}
use Rattle.order_closure.specs.Counting.{count}
use Rattle.order_closure.proofs.Counting.{count-le, count-more}
use Rattle.walks.specs.States.{place as state}
use Rattle.walks.proofs.StateLaws.{one_state}
use Rattle.clash.specs.Walks.{HasShortWalk, ShortWalks}

-- ---- paths from node to node

module _ {X : Type 0} (Leads : X → ℕ → ℕ → Type 0) where
  -- the steps lead from a to b
  abbrev IsPath : List X → ℕ → ℕ → Type 0
  IsPath [] a b = a ≡ b
  IsPath (x ∷ xs) a b = (c : ℕ) × Leads x a c × IsPath xs c b

  -- and each of them to a node that passes a test
  abbrev IsPathIn : (ℕ → Bool) → List X → ℕ → ℕ → Type 0
  IsPathIn test [] a b = a ≡ b
  IsPathIn test (x ∷ xs) a b = (c : ℕ) × Leads x a c × (test c ≡ true) × IsPathIn test xs c b

  -- all that pass but one
  abbrev omitted : ℕ → (ℕ → Bool) → ℕ → Bool
  omitted a test c = not (nat_eq c a) && test c

  -- a path never comes to a node after its start, or its part after the last time is one that starts there and never does
  leaves : (test : ℕ → Bool) (a : ℕ) (xs : List X) (c b : ℕ) → IsPathIn test xs c b → IsPathIn (omitted a test) xs c b ⊎ ((ys : List X) × IsPathIn (omitted a test) ys a b)
  leaves test a [] c b path = inl path
  leaves test a (x ∷ xs) c b path = elim (leaves test a xs path.0 b path.3) [
    | inr found ↦ inr found
    | inl rest ↦ elim (cases_eq path.0 a) [
      | inl same ↦ inr (xs, subst (λ (d : ℕ). IsPathIn (omitted a test) xs d b) same rest)
      | inr other ↦ inl (path.0, path.1, other_passes path.0 other path.2, rest)
    ]
  ]
    where
      other_passes : (d : ℕ) → (d ≡ a → ⊥) → test d ≡ true → omitted a test d ≡ true
      other_passes d other passes = elim (nat_eq d a) as (λ e. nat_eq d a ≡ e → (not e && test d) ≡ true) [
        | true ↦ λ e. absurd (other (eqb-true d a e))
        | false ↦ λ e. passes
      ] refl

  -- one node fewer passes
  fewer : (n : ℕ) (test : ℕ → Bool) (a : ℕ) → a < n → test a ≡ true → count (omitted a test) n < count test n
  fewer n test a la passes = count-more (omitted a test) test n a la (ap (λ (e : Bool). not e && test a) (eq-eqb a a refl)) passes (λ k lk e. others (nat_eq k a) (test k) e)
    where
      others : (e t : Bool) → (not e && t) ≡ true → t ≡ true
      others true t h = absurd cc
      others false t h = h

  -- a path that never comes back to its start, where what follows the first step can be shorter than a number
  from_start : (test : ℕ → Bool) (k a b : ℕ) → ((c : ℕ) (x : X) (xs : List X) → Leads x a c → omitted a test c ≡ true → IsPathIn (omitted a test) xs c b → (ys : List X) × IsPath ys c b × (length ys < k))
      → (xs : List X) → IsPathIn (omitted a test) xs a b → (ys : List X) × IsPath ys a b × (length ys < suc k)
  from_start test k a b short [] path = ([], path, omega arith)
  from_start test k a b short (x ∷ xs) path =
      let rest = short path.0 x xs path.1 path.2 path.3 in
      (x ∷ rest.0, (path.0, path.1, rest.1), let less = rest.2 in omega arith)

  -- each path has one that is shorter than there are nodes that pass the test
  shorter : (n : ℕ) → ((x : X) (a c : ℕ) → Leads x a c → c < n) → (k : ℕ) (test : ℕ → Bool) (a b : ℕ) (xs : List X) → count test n ≤ k → a < n → test a ≡ true → IsPathIn test xs a b
      → (ys : List X) × IsPath ys a b × (length ys < k)
  shorter n inside zero test a b xs few la passes path = let less = fewer n test a la passes in absurd (omega arith)
  shorter n inside (suc k) test a b xs few la passes path =
      let less = fewer n test a la passes in
      let short = from_start test k a b (λ c x ys leads other rest. shorter n inside k (omitted a test) c b ys (omega arith) (inside x a c leads) other rest) in
      elim (leaves test a xs a b path) [
        | inl rest ↦ short xs rest
        | inr found ↦ short found.0 found.1
      ]

-- ---- walks as paths

or_none : (s : Bool) → (s || false) ≡ s
or_none true = refl
or_none false = refl

or_assoc : (s o r : Bool) → ((s || o) || r) ≡ (s || (o || r))
or_assoc true o r = refl
or_assoc false o r = refl

module _ (net : PlainNet) (Chosen : ℕ → Type 0) where
  -- a step leads from the states of the first point of its order to those of the second
  abbrev Leads : Step → ℕ → ℕ → Type 0
  Leads step m n = (a : Atom) × (s : Bool) × GoesBy net Chosen step a × (m ≡ state a.from s) × (n ≡ state a.to (s || a.strict))

  inside : IsNet net → (step : Step) (m n : ℕ) → Leads step m n → n < 2 * points net
  inside is step m n leads =
      let range = (step_in_range net step leads.0 is leads.2.0).1 in
      let e = leads.4 in
      by (leads.1 || leads.0.strict) e range
    where
      by : (b : Bool) → n ≡ state leads.0.to b → leads.0.to < points net → n < 2 * points net
      by true e lt = omega arith
      by false e lt = omega arith

  -- joined steps are a path
  path_of : (steps : List Step) (x y : ℕ) (s : Bool) → IsJoined net Chosen steps x y → IsPathIn Leads (λ n. true) steps (state x s) (state y (s || has_strict net steps))
  path_of [] x y s joined = ap (λ (p : ℕ). state p s) joined ∙ ap (state y) (sym (or_none s))
  path_of (step ∷ steps) x y s joined =
      let a = joined.0 in
      let strict : a.strict ≡ is_strict_order (atom_of net step) = sym (ap is_strict_order joined.1.0) in
      let same : ((s || a.strict) || has_strict net steps) ≡ (s || has_strict net (step ∷ steps)) = or_assoc s a.strict (has_strict net steps) ∙ ap (λ (o : Bool). s || (o || has_strict net steps)) strict in (
        state a.to (s || a.strict),
        (a, s, joined.1, ap (λ (p : ℕ). state p s) (sym joined.2), refl),
        refl,
        subst (λ (b : Bool). IsPathIn Leads (λ n. true) steps (state a.to (s || a.strict)) (state y b)) same (path_of steps a.to y (s || a.strict) joined.3),
      )

  -- a path is of joined steps
  steps_of : (steps : List Step) (x : ℕ) (s : Bool) (n : ℕ) → IsPath Leads steps (state x s) n → (y : ℕ) × IsJoined net Chosen steps x y × (n ≡ state y (s || has_strict net steps))
  steps_of [] x s n path = (x, refl, sym path ∙ ap (state x) (sym (or_none s)))
  steps_of (step ∷ steps) x s n path =
      let leads = path.1 in
      let a = leads.0 in
      let here = one_state x a.from s leads.1 leads.3 in
      let next : path.0 ≡ state a.to (s || a.strict) = leads.4 ∙ ap (λ (b : Bool). state a.to (b || a.strict)) (sym here.1) in
      let rest = steps_of steps a.to (s || a.strict) n (subst (λ (m : ℕ). IsPath Leads steps m n) next path.2) in
      let strict : a.strict ≡ is_strict_order (atom_of net step) = sym (ap is_strict_order leads.2.0) in
      let same : ((s || a.strict) || has_strict net steps) ≡ (s || has_strict net (step ∷ steps)) = or_assoc s a.strict (has_strict net steps) ∙ ap (λ (o : Bool). s || (o || has_strict net steps)) strict in
      (rest.0, (a, leads.2, sym here.0, rest.1), rest.2 ∙ ap (state rest.0) same)

  -- the path of a walk that begins at a point of the net
  short_from : IsNet net → (x y : ℕ) (strict : Bool) (steps : List Step) → x < points net → IsWalk net Chosen x y strict steps → HasShortWalk net Chosen x y strict
  short_from is x y strict steps lx walk =
      let n = 2 * points net in
      let found = shorter Leads n (inside is) n (λ k. true) (state x false) (state y (has_strict net steps)) steps (count-le (λ k. true) n) (omega arith) refl (path_of steps x y false walk.0) in
      let end = steps_of found.0 x false (state y (has_strict net steps)) found.1 in
      let same = one_state y end.0 (has_strict net steps) (has_strict net found.0) end.2 in (
        found.0,
        (subst (λ (z : ℕ). IsJoined net Chosen found.0 x z) (sym same.0) end.1, λ e. sym same.1 ∙ walk.1 e),
        let lt = found.2 in omega arith,
      )

-- where there is a walk there is a short one
pub short_walk : (net : PlainNet) (Chosen : ℕ → Type 0) (x y : ℕ) (strict : Bool) → IsNet net → HasWalk net Chosen x y strict → HasShortWalk net Chosen x y strict
short_walk net Chosen x y strict is ([], walk) = ([], walk, omega arith)
short_walk net Chosen x y strict is (step ∷ steps, walk) =
    let a = walk.0.0 in
    let range = step_in_range net step a is walk.0.1.0 in
    short_from net Chosen is x y strict (step ∷ steps) (subst (λ (p : ℕ). p < points net) walk.0.2 range.0) walk

pub short_walks : ShortWalks
short_walks net keep x y strict is walk = short_walk net (Kept keep) x y strict is walk
