-- The steps that may be taken from a point.
use Rattle.std.proofs.Common.{length-append, ◌≡◌, ◌⊎◌, ℕ, ◌<◌, ℤ, ◌≤ℤ◌, true, int_le, List, length, get_or, Some, None, refl, sym, ap, subst, ◌∙◌, arith, inl, inr}
use Rattle.std.specs.List.{All, Contains}
use Rattle.std.proofs.lemmas.Int.{ints}
use Rattle.std.proofs.lemmas.List.Elements.{All-contains, Contains-get_or}
use Rattle.std.proofs.lemmas.Option.{same_Some}
use Rattle.net_core.specs.Nets.{IsNet, PlainNet, lower, points, upper}
use Rattle.net_core.specs.Steps.{atom_of}
use Rattle.net_core.specs.declared.atom.Atom.{Atom}
use Rattle.net_core.specs.declared.step.Step.{Step}
use Rattle.net_core.specs.declared.step.Step.TheVariants.{Calendar, Link, Span}
use Rattle.net_core.proofs.StepLaws.{ordered, step_in_range}
use Rattle.walks.specs.Dates as dates
use Rattle.walks.specs.Dates.{AreDatesBelow, IsDateOfPoint}
use Rattle.walks.specs.Edges.{AreEdgesFrom, IsDated}
use Rattle.walks.specs.Graphs.{AreEdgesLeaving, IsCalendarWay, IsDateEdge, IsGraph, date_edge}
use Rattle.walks.specs.States.{StatesGrow, IsExpanded, IsReached, PlainStates, entry_at}
use Rattle.walks.specs.declared.dates.Date.{Date}
use Rattle.walks.specs.declared.edges.Edge.{Edge}
use Rattle.walks.specs.declared.graph.Graph.{Graph}
use Rattle.walks.specs.declared.states.Entry.{Entry}
use Rattle.walks.proofs.StateLaws.{grown_entry, grows_then, grows_wider, reached_kept}

-- what a test of two numbers says
no_greater : (x y : ℤ) → int_le x y ≡ true → x ≤ℤ y
no_greater x y e = grind (arith, ints)

passes : (x y : ℤ) → x ≤ℤ y → int_le x y ≡ true
passes x y le = grind (arith, ints)

-- the numbers of the two points of a step of the calendar
record HasNumbers (net : PlainNet) (edge : Edge) : Type 0 where
  first : ℤ
  second : ℤ
  upper_is : upper net edge.atom.from ≡ Some first
  lower_is : lower net edge.atom.to ≡ Some second
  order : first ≤ℤ second
  same : edge ≡ date_edge (record { number = first; point = edge.atom.from }) (record { number = second; point = edge.atom.to })

has_numbers : (net : PlainNet) (step : Step) (atom : Atom) → IsDated step → atom_of net step ≡ Some atom → HasNumbers net (record { step = step; atom = atom })
has_numbers net (Calendar p q) atom is goes =
    let o = ordered (upper net p) (lower net q) p q atom goes in
    subst (λ (a : Atom). HasNumbers net (record { step = Calendar p q; atom = a })) o.5 (record { first = o.0; second = o.1; upper_is = o.2; lower_is = o.3; order = no_greater o.0 o.1 o.4; same = refl })
has_numbers net (Span i) atom is goes = absurd is
has_numbers net (Link k i) atom is goes = absurd is

-- a point with an upper number, and one with a lower number that is not below it, have such a step
date_way : (net : PlainNet) (first second : Date) → upper net first.point ≡ Some first.number → lower net second.point ≡ Some second.number → first.number ≤ℤ second.number
    → atom_of net (date_edge first second).step ≡ Some (date_edge first second).atom
date_way net first second upper_is lower_is order = let test = passes first.number second.number order in rw (upper_is, lower_is, test) refl

module _ (net : PlainNet) (graph : Graph) (is : IsGraph net graph) where
  -- the edges that leave a point lead to points of the net
  pub leaving : (point : ℕ) (edges : List Edge) → IsNet net → AreEdgesFrom point graph.edges.items edges → AreEdgesLeaving point (points net) edges
  leaving point edges net_is from k d lk =
      let edge = get_or edges k d in
      let both = (from edge).0 (Contains-get_or edges k d lk) in
      (both.1, (step_in_range net edge.step edge.atom net_is (All-contains (λ (e : Edge). atom_of net e.step ≡ Some e.atom) graph.edges.items edge is.right both.0)).1)

  -- dates of the net are of its points
  pub dates_below : (number : ℤ) (lowers : List Date) → dates.AreDatesFrom number graph.lowers.items lowers → AreDatesBelow (points net) lowers
  dates_below number lowers from k d lk =
      let date = get_or lowers k d in
      (All-contains (IsDateOfPoint (lower net) (points net)) graph.lowers.items date is.dates.right ((from date).0 (Contains-get_or lowers k d lk)).0).0

  -- the states that listed edges lead to
  pub listed_expanded : (k : ℕ) (point : ℕ) (edges : List Edge) (old new : PlainStates) → k < length old.entries → point ≡ (entry_at old.entries k).point → AreEdgesFrom point graph.edges.items edges
      → StatesGrow (Contains edges) k old new → All (IsReached new.entries k) edges → IsExpanded (Contains graph.edges.items) new.entries k
  listed_expanded k point edges old new lt at from grown reached edge has leaves =
      let here = grown_entry (Contains edges) k k old new lt grown in
      All-contains (IsReached new.entries k) edges edge reached ((from edge).1 (has, leaves ∙ ap (λ (e : Entry). e.point) here ∙ sym at))

  -- a step to a date is one of the calendar
  pub date_ways : (first : Date) (lowers : List Date) → upper net first.point ≡ Some first.number → dates.AreDatesFrom first.number graph.lowers.items lowers
      → (edge : Edge) → IsDateEdge first lowers edge → IsCalendarWay net edge
  date_ways first lowers upper_is from edge h =
      let second = h.1 in
      let both = (from second).0 (h.0, h.2, h.3) in
      let date = All-contains (IsDateOfPoint (lower net) (points net)) graph.lowers.items second is.dates.right both.0 in
      subst (IsCalendarWay net) (sym h.4) (tt, date_way net first second upper_is date.1 both.1)

  -- the states that steps of the calendar lead to
  pub dates_expanded : (k : ℕ) (first : Date) (lowers : List Date) (old new : PlainStates) → IsNet net → k < length old.entries → first.point ≡ (entry_at old.entries k).point
      → upper net first.point ≡ Some first.number → dates.AreDatesFrom first.number graph.lowers.items lowers
      → StatesGrow (IsDateEdge first lowers) k old new → All (λ (second : Date). IsReached new.entries k (date_edge first second)) lowers → IsExpanded (IsCalendarWay net) new.entries k
  dates_expanded k first lowers old new net_is lt at upper_is from grown reached edge way leaves =
      let here = grown_entry (IsDateEdge first lowers) k k old new lt grown in
      let numbers = has_numbers net edge.step edge.atom way.0 way.1 in
      let same_point : edge.atom.from ≡ first.point = leaves ∙ ap (λ (e : Entry). e.point) here ∙ sym at in
      let same_number : numbers.first ≡ first.number = same_Some numbers.first first.number (sym numbers.upper_is ∙ ap (upper net) same_point ∙ upper_is) in
      let second : Date = record { number = numbers.second; point = edge.atom.to } in
      let has = is.dates.whole edge.atom.to numbers.second (step_in_range net edge.step edge.atom net_is way.1).1 numbers.lower_is in
      let later : first.number ≤ℤ numbers.second = subst (λ (x : ℤ). x ≤ℤ numbers.second) same_number numbers.order in
      let same : date_edge first second ≡ edge = (λ i. date_edge (record { number = sym same_number i; point = sym same_point i }) second) ∙ sym numbers.same in
      subst (IsReached new.entries k) same (All-contains (λ (d : Date). IsReached new.entries k (date_edge first d)) lowers second reached ((from second).1 (has, later)))

-- a point with no upper number has no step of the calendar
pub none_expanded : (net : PlainNet) (k : ℕ) (entries : List Entry) → upper net (entry_at entries k).point ≡ None → IsExpanded (IsCalendarWay net) entries k
none_expanded net k entries no_upper edge way leaves =
    let numbers = has_numbers net edge.step edge.atom way.0 way.1 in
    let both : None ≡ Some numbers.first = sym no_upper ∙ ap (upper net) (sym leaves) ∙ numbers.upper_is in
    cc

-- the states that edges of one set lead to, and then those that edges of another one do
pub expanded_then : (P Q : Edge → Type 0) (k : ℕ) (old mid new : PlainStates) → k < length old.entries → StatesGrow P k old mid → IsExpanded P mid.entries k → StatesGrow Q k mid new → IsExpanded Q new.entries k
    → StatesGrow (λ edge. P edge ⊎ Q edge) k old new × IsExpanded (λ edge. P edge ⊎ Q edge) new.entries k
expanded_then P Q k old mid new lt first one second two =
    let still : k < length mid.entries = omega (arith, ap length first.entries ∙ length-append old.entries first.more) in
    let same = grown_entry Q k k mid new still second in (
      grows_then (λ edge. P edge ⊎ Q edge) k old mid new lt (grows_wider P (λ edge. P edge ⊎ Q edge) k old mid (λ edge p. inl p) first) (grows_wider Q (λ edge. P edge ⊎ Q edge) k mid new (λ edge q. inr q) second),
      λ edge way leaves. elim way [
        | inl p ↦ reached_kept Q k k edge mid new still second (one edge p (leaves ∙ ap (λ (e : Entry). e.point) same))
        | inr q ↦ two edge q leaves
      ],
    )
