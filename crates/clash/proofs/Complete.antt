-- Each order that always holds has a walk: the steps of a net have a closed table whose cells all have walks, or there is a closed walk.
use Rattle.std.proofs.Common.{◌≡◌, ◌↔◌, ℕ, ◌<◌, Bool, true, false, ◌||◌, List, [], ◌∷◌, map, slice_index_or, Option, Some, None, refl, sym, subst, ◌∙◌, arith, ◌⊎◌, inl, inr}
use Rattle.std.specs.List.{Contains}
use Rattle.std.proofs.lemmas.Bool.{cases_lt}
use Rattle.std.proofs.lemmas.List.Elements.{All-contains_itself, recursion_from_All}
use Rattle.net_core.specs.Atoms.{IsInRange, Satisfies}
use Rattle.net_core.specs.Clashes.{Clashes}
use Rattle.net_core.specs.Fits.{FitsWith}
use Rattle.net_core.specs.Nets.{IsNet, PlainNet, points}
use Rattle.net_core.specs.Ranks.{timeline_of}
use Rattle.net_core.specs.Relations.{Timeline}
use Rattle.net_core.specs.Steps.{GoesBy, Uses, atom_of, has_strict, is_strict_order}
use Rattle.net_core.specs.Walks.{IsClosedWalk, IsJoined, HasWalk, Kept}
use Rattle.net_core.specs.declared.atom.Atom.{Atom}
use Rattle.net_core.specs.declared.step.Step.{Step}
use Rattle.net_core.specs.declared.step.Step.TheVariants.{Link, Span, Calendar}
use Rattle.net_core.proofs.StepLaws.{fits_from_steps, step_in_range, step_kept}
use Rattle.net_core.proofs.WalkLaws.{closed_walk_clashes, walk_kept}
use Rattle.net_core.specs.Least.{AreLeast}
use Rattle.order_closure.specs.Cells.{order, strength}
use Rattle.order_closure.specs.Tables.{AreClosed, AreCellsKept}
use Rattle.order_closure.specs.declared.cell.Cell.{Cell}
use Rattle.order_closure.proofs.LeastRanks.{counter_ranks, least_ranks, same_ranks}
use Rattle.clash.specs.Walks.{AlwaysWith, ClashesHaveClosedWalks, WalksSayAll}
use Rattle.clash.proofs.Elements.{first_in, first_or_rest, rest_in}
use Rattle.clash.proofs.EveryStep.{every_step, of_every_step}
use Rattle.clash.proofs.Paths.{AllTrue, HasPath, Leads, SaysPaths, any_strict, table_or_closed_path}

-- ---- walks over the links that pass a test

abbrev Passed : (ℕ → Bool) → ℕ → Type 0
Passed test k = test k ≡ true

-- whether a step goes by an order, and over no link but those
decided : (net : PlainNet) (test : ℕ → Bool) (step : Step) → ((a : Atom) × GoesBy net (Passed test) step a) ⊎ ((a : Atom) → GoesBy net (Passed test) step a → ⊥)
decided net test step = with_order (atom_of net step) refl
  where
    with_use : (step : Step) → Uses (Passed test) step ⊎ (Uses (Passed test) step → ⊥)
    with_use (Link k i) = by (test k) refl
      where
        by : (b : Bool) → test k ≡ b → (test k ≡ true) ⊎ (test k ≡ true → ⊥)
        by true e = inl e
        by false e = inr (λ f. let both : false ≡ true = sym e ∙ f in cc)
    with_use (Span i) = inl tt
    with_use (Calendar p q) = inl tt

    with_order : (o : Option Atom) → atom_of net step ≡ o → ((a : Atom) × GoesBy net (Passed test) step a) ⊎ ((a : Atom) → GoesBy net (Passed test) step a → ⊥)
    with_order (Some a) e = elim (with_use step) [
      | inl uses ↦ inl (a, (e, uses))
      | inr not ↦ inr (λ b goes. not goes.1)
    ]
    with_order None e = inr (λ b goes. let both : None ≡ Some b = sym e ∙ goes.0 in cc)

module _ (net : PlainNet) (test : ℕ → Bool) (is : IsNet net) where
  abbrev Walk : ℕ → ℕ → Bool → Type 0
  Walk x y strict = HasWalk net (Passed test) x y strict

  -- ---- the steps that go by an order

  -- a step, with the order that it goes by
  abbrev Taken : Type 0
  Taken = (step : Step) × (a : Atom) × GoesBy net (Passed test) step a

  abbrev order_of : Taken → Atom
  order_of taken = taken.1

  taken_of : List Step → List Taken
  taken_of [] = []
  taken_of (step ∷ steps) = elim (decided net test step) [
    | inl goes ↦ (step, goes.0, goes.1) ∷ taken_of steps
    | inr none ↦ taken_of steps
  ]

  abbrev all_taken : List Taken
  all_taken = taken_of (every_step net)

  -- a step of some that goes by an order is taken
  is_taken : (steps : List Step) (step : Step) (a : Atom) → Contains steps step → GoesBy net (Passed test) step a → (taken : Taken) × Contains (taken_of steps) taken × (order_of taken ≡ a)
  unfolding taken_of
  is_taken [] step a among goes = let lt = among.1 in absurd (omega arith)
  is_taken (first ∷ steps) step a among goes = elim (decided net test first) as (λ d. (taken : Taken) × Contains (elim d [ inl by ↦ (first, by.0, by.1) ∷ taken_of steps | inr none ↦ taken_of steps ]) taken × (order_of taken ≡ a)) [
    | inl by ↦ elim (first_or_rest first steps step among) [
      | inl here ↦
          let same : by.0 ≡ a = let e = by.1.0 in let f = goes.0 in cc in
          ((first, by.0, by.1), first_in (first, by.0, by.1) (taken_of steps), same)
      | inr later ↦ let found = is_taken steps step a later goes in (found.0, rest_in (first, by.0, by.1) (taken_of steps) found.0 found.1, found.2)
    ]
    | inr none ↦ elim (first_or_rest first steps step among) [
      | inl here ↦ absurd (none a (subst (λ (s : Step). GoesBy net (Passed test) s a) (sym here) goes))
      | inr later ↦ is_taken steps step a later goes
    ]
  ]

  -- a timeline fits where the orders of all are true
  taken_fits : (t : Timeline) → AllTrue order_of all_taken t → FitsWith net (Passed test) t
  taken_fits t all = fits_from_steps net (Passed test) t (λ step a goes.
      let among = of_every_step (Contains (every_step net)) net step a is goes.0 (recursion_from_All (Contains (every_step net)) (every_step net) (All-contains_itself (every_step net))) in
      let found = is_taken (every_step net) step a among goes in
      subst (Satisfies t) found.2 (all found.0 found.1))

  fits_taken : (t : Timeline) → FitsWith net (Passed test) t → AllTrue order_of all_taken t
  fits_taken t fits taken among = step_kept net (Passed test) t taken.0 taken.1 fits taken.2

  -- a path over them is a walk
  joined_of : (path : List Taken) (x y : ℕ) → Leads order_of all_taken path x y → IsJoined net (Passed test) (map (λ taken. taken.0) path) x y
  joined_of [] x y leads = leads
  joined_of (taken ∷ path) x y leads = (taken.1, taken.2, leads.1, joined_of path taken.1.to y leads.2)

  strict_of : (path : List Taken) → has_strict net (map (λ taken. taken.0) path) ≡ any_strict order_of all_taken path
  strict_of [] = refl
  strict_of (taken ∷ path) = λ i. is_strict_order (taken.2.0 i) || strict_of path i

  walk_of : (x y : ℕ) (strict : Bool) → HasPath order_of all_taken x y strict → Walk x y strict
  walk_of x y strict path = (map (λ taken. taken.0) path.0, (joined_of path.0 x y path.1.0, λ e. strict_of path.0 ∙ path.1.1 e))

  in_range : (taken : Taken) → Contains all_taken taken → IsInRange (points net) (order_of taken)
  in_range taken among = step_in_range net taken.0 taken.1 is taken.2.0

  -- a closed table that is kept by the timelines that fit and no others, and says nothing without a walk
  abbrev Table : Type 0
  Table = (cell : ℕ → ℕ → Cell) × SaysPaths order_of all_taken (points net) in_range cell

  table_or_walk : Table ⊎ ((steps : List Step) × IsClosedWalk net (Passed test) steps)
  table_or_walk = elim (table_or_closed_path order_of all_taken (points net) in_range) [
    | inl table ↦ inl table
    | inr closed ↦ let walk = walk_of closed.0 closed.0 true closed.1 in inr (walk.0, (closed.0, walk.1))
  ]

  kept_fits : (table : Table) (t : Timeline) → AreCellsKept (points net) table.0 t ↔ FitsWith net (Passed test) t
  kept_fits table t = (λ kept. taken_fits t ((table.1.kept t).0 kept), λ fits. (table.1.kept t).1 (fits_taken t fits))

  -- least ranks fit, or some walk is closed
  pub least_or_closed_walk : ((ranks : List ℕ) × AreLeast (points net) (FitsWith net (Passed test)) ranks) ⊎ ((steps : List Step) × IsClosedWalk net (Passed test) steps)
  least_or_closed_walk = elim table_or_walk [
    | inl table ↦
        let found = least_ranks (points net) table.0 table.1.closed in
        inl (found.0, same_ranks (points net) (AreCellsKept (points net) table.0) (FitsWith net (Passed test)) found.0 (kept_fits table) found.1)
    | inr closed ↦ inr closed
  ]

  -- some timeline fits, and none of its ranks is above the number of points, or some walk is closed
  pub fits_or_closed_walk : ((t : Timeline) × FitsWith net (Passed test) t × ((p : ℕ) → p < points net → t p < points net)) ⊎ ((steps : List Step) × IsClosedWalk net (Passed test) steps)
  fits_or_closed_walk = elim least_or_closed_walk [
    | inl least ↦ inl (timeline_of least.0, least.1.least.holds, least.1.small)
    | inr closed ↦ inr closed
  ]

  -- where none fits some walk is closed
  pub some_closed_walk : Clashes net (Passed test) → (steps : List Step) × IsClosedWalk net (Passed test) steps
  some_closed_walk none = elim fits_or_closed_walk [
    | inl fits ↦ absurd (none fits.0 fits.1)
    | inr closed ↦ closed
  ]

  -- where some timeline fits, one does with ranks below the number of points
  pub small_timeline : (u : Timeline) → FitsWith net (Passed test) u → (t : Timeline) × FitsWith net (Passed test) t × ((p : ℕ) → p < points net → t p < points net)
  small_timeline u fits = elim fits_or_closed_walk [
    | inl small ↦ small
    | inr closed ↦ absurd (closed_walk_clashes net (Passed test) closed.0 closed.1 u fits)
  ]

  -- where some timeline fits, closed cells are kept by those that do and no others
  pub closed_cells : (u : Timeline) → FitsWith net (Passed test) u → (cell : ℕ → ℕ → Cell) × AreClosed (points net) cell × ((t : Timeline) → AreCellsKept (points net) cell t ↔ FitsWith net (Passed test) t)
  closed_cells u fits = elim table_or_walk [
    | inl table ↦ (table.0, table.1.closed, kept_fits table)
    | inr closed ↦ absurd (closed_walk_clashes net (Passed test) closed.0 closed.1 u fits)
  ]

  -- where some timeline fits an order has a walk, or there are least ranks that fit and in which it is false
  pub walk_or_counter : (u : Timeline) (atom : Atom) → FitsWith net (Passed test) u → IsInRange (points net) atom
      → Walk atom.from atom.to atom.strict ⊎ ((ranks : List ℕ) × AreLeast (points net) (λ t. FitsWith net (Passed test) t × (Satisfies t atom → ⊥)) ranks)
  walk_or_counter u atom fits range = elim table_or_walk [
    | inl table ↦ elim (cases_lt (strength (table.0 atom.from atom.to)) (strength (order atom.strict))) [
      | inl weaker ↦
          let found = counter_ranks (points net) table.0 atom table.1.closed range.0 range.1 weaker in
          inr (
            found.0,
            same_ranks (points net) (λ t. AreCellsKept (points net) table.0 t × (Satisfies t atom → ⊥)) (λ t. FitsWith net (Passed test) t × (Satisfies t atom → ⊥)) found.0 (λ t. (
              λ h. ((kept_fits table t).0 h.0, h.1),
              λ h. ((kept_fits table t).1 h.0, h.1),
            )) found.1,
          )
      | inr enough ↦ inl (walk_of atom.from atom.to atom.strict (table.1.paths atom.from atom.to atom.strict range.0 range.1 enough))
    ]
    | inr closed ↦ absurd (closed_walk_clashes net (Passed test) closed.0 closed.1 u fits)
  ]

  -- what holds in all timelines that fit has a walk, where some timeline fits
  pub complete : (u : Timeline) (strict : Bool) (p q : ℕ) → FitsWith net (Passed test) u → p < points net → q < points net → AlwaysWith net (Passed test) strict p q → Walk p q strict
  complete u strict p q fits lp lq always = elim (walk_or_counter u (record { from = p; to = q; strict = strict }) fits (lp, lq)) [
    | inl walk ↦ walk
    | inr counter ↦ let holds = counter.1.least.holds in absurd (holds.1 (always (timeline_of counter.0) holds.0))
  ]

-- clashes have closed walks
pub clashes_have_closed_walks : ClashesHaveClosedWalks
clashes_have_closed_walks net keep is = (some_closed_walk net (λ k. slice_index_or keep k false) is, λ walk. closed_walk_clashes net (Kept keep) walk.0 walk.1)

-- walks say all
pub walks_say_all : WalksSayAll
walks_say_all net keep u strict p q is fits lp lq = (
  complete net (λ k. slice_index_or keep k false) is u strict p q fits lp lq,
  λ walk t other. walk_kept net (Kept keep) t walk.0 p q strict other walk.1,
)
