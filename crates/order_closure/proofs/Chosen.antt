-- Chosen points of a closed table: an order of them that keeps their cells is that of some timeline that keeps all cells. The table is raised by the atoms of that order one after another, and each changes the cells of chosen points by their cells alone, so none is denied.
use Rattle.std.proofs.Common.{◌↔◌, ◌⊎◌, inl, inr, ℕ, ◌<◌, ◌≤◌, List, [], ◌∷◌, map, flat_map, refl, arith}
use Rattle.std.specs.List.{AllByRecursion, Contains}
use Rattle.std.proofs.lemmas.Bool.{cases_lt}
use Rattle.std.proofs.lemmas.List.Elements.{All-contains, All-contains_itself, All-from_recursion, recursion_from_All}
use Rattle.named.proofs.Lists.{each_flat_map, each_parts, each_weaker}
use Rattle.net_core.specs.Atoms.{Satisfies, before, no_later}
use Rattle.net_core.specs.Relations.{Timeline}
use Rattle.net_core.specs.declared.atom.Atom.{Atom}
use Rattle.net_core.proofs.AtomLaws.{all_mapped}
use Rattle.order_closure.specs.Cells.{CellSays, order, strength, stronger}
use Rattle.order_closure.specs.Chosen.{ChosenPointsDecide}
use Rattle.order_closure.specs.Counting.{before_count}
use Rattle.order_closure.specs.Tables.{AreClosed, Denies, cell_at, way}
use Rattle.order_closure.specs.declared.cell.Cell.{Cell}
use Rattle.order_closure.proofs.Central.{denied_false, order_says}
use Rattle.order_closure.proofs.Raising.{atom_raised, left_weaker, raised_closed, raised_says, trans, weaker_holds}
use Rattle.order_closure.proofs.Ranking.{counts_kept}

module _ (n : ℕ) (chosen : List ℕ) (s : Timeline) (inside : (i : ℕ) → Contains chosen i → i < n) where
  -- cells that are closed, and that a timeline keeps among the chosen points
  record Suits (cell : ℕ → ℕ → Cell) : Type 0 where
    pub closed : AreClosed n cell
    pub among : (i j : ℕ) → Contains chosen i → Contains chosen j → CellSays (cell i j) (s i) (s j)

  -- other cells that say no less
  abbrev SayMore : (ℕ → ℕ → Cell) → (ℕ → ℕ → Cell) → Type 0
  SayMore cell more = (i j : ℕ) → strength (cell i j) ≤ strength (more i j)

  -- the order of an atom stands in its cell
  abbrev StandsIn : (ℕ → ℕ → Cell) → Atom → Type 0
  StandsIn cell atom = strength (order atom.strict) ≤ strength (cell atom.from atom.to)

  -- an order of two chosen points that the timeline has
  abbrev IsOfTimeline : Atom → Type 0
  IsOfTimeline atom = Contains chosen atom.from × Contains chosen atom.to × Satisfies s atom

  abbrev raised : (ℕ → ℕ → Cell) → Atom → ℕ → ℕ → Cell
  raised cell atom i j = stronger (cell i j) (way cell atom i j)

  -- raised by such an order, the cells still suit: those of chosen points change by cells of chosen points alone
  raised_suits : (cell : ℕ → ℕ → Cell) (atom : Atom) → Suits cell → IsOfTimeline atom → Suits (raised cell atom)
  raised_suits cell atom suits (from, to, holds) =
      let fits : ¬ Denies (cell atom.to atom.from) atom.strict = (λ denied. denied_false (cell atom.to atom.from) atom.strict (s atom.from) (s atom.to) denied (suits.among atom.to atom.from to from) holds) in
      record {
        closed = raised_closed n cell atom suits.closed (inside atom.from from) (inside atom.to to) fits (raised cell atom) (λ i j li lj. refl);
        among = λ i j ci cj. raised_says cell atom s i j (suits.among i j ci cj) (suits.among i atom.from ci from) (suits.among atom.to j to cj) holds;
      }

  -- so they can be raised by any number of them
  all_raised : (cell : ℕ → ℕ → Cell) → Suits cell → (atoms : List Atom) → AllByRecursion IsOfTimeline atoms
      → (more : ℕ → ℕ → Cell) × Suits more × SayMore cell more × AllByRecursion (StandsIn more) atoms
  all_raised cell suits [] all = (cell, suits, λ i j. omega arith, tt)
  all_raised cell suits (atom ∷ atoms) all =
      let next = raised cell atom in
      let itself = λ (i : ℕ) (c : Contains chosen i). suits.closed.itself i (inside i c) in
      let stands : StandsIn next atom = atom_raised cell atom (itself atom.from all.0.0) (itself atom.to all.0.1) in
      let (more, still, says, rest) = all_raised next (raised_suits cell atom suits all.0) atoms all.1 in (
        more,
        still,
        λ i j. trans (cell i j) (next i j) (more i j) (left_weaker (cell i j) (way cell atom i j)) (says i j),
        (trans (order atom.strict) (next atom.from atom.to) (more atom.from atom.to) stands (says atom.from atom.to), rest),
      )

  -- the order of two points in the timeline
  abbrev order_by : (i j : ℕ) → (s i < s j) ⊎ (s j ≤ s i) → Atom
  order_by i j (inl less) = before i j
  order_by i j (inr more) = no_later j i

  abbrev order_between : ℕ → ℕ → Atom
  order_between i j = order_by i j (cases_lt (s i) (s j))

  is_of_timeline : (i j : ℕ) (c : (s i < s j) ⊎ (s j ≤ s i)) → Contains chosen i → Contains chosen j → IsOfTimeline (order_by i j c)
  is_of_timeline i j (inl less) ci cj = (ci, cj, less)
  is_of_timeline i j (inr more) ci cj = (cj, ci, more)

  -- where another timeline has it, it has the two points in the same order
  same_order : (t : Timeline) (i j : ℕ) (c : (s i < s j) ⊎ (s j ≤ s i)) → Satisfies t (order_by i j c) → (s i < s j) ↔ (t i < t j)
  same_order t i j (inl less) holds = (λ h. holds, λ h. less)
  same_order t i j (inr more) holds = (λ h. absurd (omega (arith, h, more)), λ h. absurd (omega (arith, h, holds)))

  -- the orders of a point and all chosen ones, and of all with all
  abbrev orders_from : ℕ → List Atom
  orders_from i = map (order_between i) chosen

  each_from : (i : ℕ) → Contains chosen i → AllByRecursion IsOfTimeline (orders_from i)
  each_from i ci = (all_mapped IsOfTimeline (order_between i) chosen).0
      (each_weaker (Contains chosen) (λ j. IsOfTimeline (order_between i j)) (λ j cj. is_of_timeline i j (cases_lt (s i) (s j)) ci cj) chosen
      (recursion_from_All (Contains chosen) chosen (All-contains_itself chosen)))

  all_orders : AllByRecursion IsOfTimeline (flat_map orders_from chosen)
  all_orders = each_flat_map IsOfTimeline orders_from chosen
      (each_weaker (Contains chosen) (λ i. AllByRecursion IsOfTimeline (orders_from i)) each_from chosen
      (recursion_from_All (Contains chosen) chosen (All-contains_itself chosen)))

  -- what holds of the orders of all of these points holds of each
  of_each : (P : Atom → Type 0) (is : List ℕ) → AllByRecursion P (flat_map orders_from is) → AllByRecursion (λ i. AllByRecursion (λ j. P (order_between i j)) chosen) is
  of_each P [] all = tt
  of_each P (i ∷ is) all =
      let parts = each_parts P (orders_from i) (flat_map orders_from is) all in
      ((all_mapped P (order_between i) chosen).1 parts.0, of_each P is parts.1)

  of_two : (P : Atom → Type 0) → AllByRecursion P (flat_map orders_from chosen) → (i j : ℕ) → Contains chosen i → Contains chosen j → P (order_between i j)
  of_two P all i j ci cj =
      let Each : ℕ → Type 0 = λ i. AllByRecursion (λ j. P (order_between i j)) chosen in
      let from = All-contains Each chosen i (All-from_recursion Each chosen (of_each P chosen all)) ci in
      All-contains (λ j. P (order_between i j)) chosen j (All-from_recursion (λ j. P (order_between i j)) chosen from) cj

-- the law
pub chosen_points_decide : ChosenPointsDecide
chosen_points_decide table chosen s closed within keeps =
    let n = table.points in
    let inside : (i : ℕ) → Contains chosen i → i < n = λ i ci. All-contains (λ i. i < n) chosen i within ci in
    let suits : Suits n chosen s inside (cell_at table) = record { closed = closed; among = keeps } in
    let (more, still, says, stand) = all_raised n chosen s inside (cell_at table) suits (flat_map (orders_from n chosen s inside) chosen) (all_orders n chosen s inside) in
    let t = before_count n more in
    let kept = counts_kept n more still.closed in (
      t,
      λ i j li lj. weaker_holds (cell_at table i j) (more i j) (t i) (t j) (says i j) (kept i j li lj),
      λ i j ci cj.
          let c = cases_lt (s i) (s j) in
          let atom = order_by n chosen s inside i j c in
          let at = of_two n chosen s inside (StandsIn n chosen s inside more) stand i j ci cj in
          let (from, to, holds) = is_of_timeline n chosen s inside i j c ci cj in
          same_order n chosen s inside t i j c (order_says (more atom.from atom.to) atom.strict (t atom.from) (t atom.to) at (kept atom.from atom.to (inside atom.from from) (inside atom.to to))),
    )
