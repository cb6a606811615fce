-- What a search reaches, and how it came there.
use Rattle.std.proofs.Common.{◌≡◌, ◌↔◌, ◌||◌, ℕ, ◌+◌, ◌-◌, ◌<◌, Bool, true, false, cond, List, [], ◌∷◌, length, get_or, Some, None, refl, sym, ap, subst, ◌∙◌, arith, inl, inr, length-append}
use Rattle.std.specs.List.{Any, position, position_or_len}
use Rattle.std.proofs.Math.Bool.{or-false, or_assoc}
use Rattle.std.proofs.lemmas.Bool.{cases_lt, lt-ltb}
use Rattle.std.proofs.lemmas.Bool.Decides.{nat_tests}
use Rattle.std.proofs.lemmas.List.{get_or-append_right, get_or_default}
use Rattle.std.proofs.lemmas.List.Elements.{All-get_or}
use Rattle.std.proofs.lemmas.List.Quantifiers.{position-Some}
use Rattle.std.proofs.lemmas.List.Sums.{fails_before_first}
use Rattle.std.proofs.lemmas.Option.{same_Some}
use Rattle.net_core.specs.Nets.{PlainNet}
use Rattle.net_core.specs.Steps.{GoesBy, Uses, atom_of, has_strict, is_strict_order}
use Rattle.net_core.specs.Walks.{HasWalk, IsJoined, IsWalk, Kept}
use Rattle.net_core.specs.declared.atom.Atom.{Atom}
use Rattle.net_core.specs.declared.step.Step.{Step}
use Rattle.net_core.specs.declared.step.Step.TheVariants.{Calendar, Link, Span}
use Rattle.walks.specs.Edges.{AreEdges, IsDated}
use Rattle.walks.specs.Graphs.{IsWay}
use Rattle.walks.specs.Search.{IsSearched}
use Rattle.walks.specs.States.{AreTraced, StatesGrow, HasState, IsExpanded, IsPath, EdgeLeadsTo, PlainStates, entry_at, is_end, next_entry, start_entry}
use Rattle.walks.specs.declared.edges.Edge.{Edge}
use Rattle.walks.specs.declared.graph.Graph.{Graph}
use Rattle.walks.specs.declared.states.Arrival.{Arrival}
use Rattle.walks.specs.declared.states.Entry.{Entry}
use Rattle.walks.proofs.StateLaws.{grown_entry, reached_kept}

module _ (Chosen : Edge → Type 0) where
  -- the entries are traced where they were so and an entry was expanded
  pub traced_grown : (from k : ℕ) (old new : PlainStates) → k < length old.entries → StatesGrow Chosen k old new → AreTraced Chosen from old.entries → AreTraced Chosen from new.entries
  traced_grown from k old new lt grown traced j lj = elim (cases_lt j (length old.entries)) [
    | inl before ↦
        let same = grown_entry Chosen k j old new before grown in
        elim (traced j before) [
          | inl start ↦ inl (same ∙ start)
          | inr led ↦
              let less = led.1 in
              let way = led.2 in
              let here = grown_entry Chosen k led.0 old new (omega arith) grown in
              inr (led.0, led.1, (way.0, way.1, way.2 ∙ ap (λ (e : Entry). e.point) (sym here), same ∙ way.3 ∙ ap (λ (e : Entry). next_entry e led.0 way.0) (sym here)))
        ]
    | inr later ↦
        let here = grown_entry Chosen k k old new lt grown in
        let long : length new.entries ≡ length old.entries + length grown.more = ap length grown.entries ∙ length-append old.entries grown.more in
        let at : entry_at new.entries j ≡ entry_at grown.more (j - length old.entries) = ap (λ (es : List Entry). entry_at es j) grown.entries ∙ get_or-append_right old.entries grown.more (length old.entries) j (start_entry 0) refl later in
        let way = All-get_or (EdgeLeadsTo Chosen old.entries k) grown.more (j - length old.entries) (start_entry 0) (omega arith) grown.led in
        inr (k, omega arith, (way.0, way.1, way.2 ∙ ap (λ (e : Entry). e.point) (sym here), at ∙ way.3 ∙ ap (λ (e : Entry). next_entry e k way.0) (sym here)))
  ]

  -- an entry that is expanded stays so
  pub expanded_kept : (k j : ℕ) (old new : PlainStates) → j < length old.entries → StatesGrow Chosen k old new → IsExpanded Chosen old.entries j → IsExpanded Chosen new.entries j
  expanded_kept k j old new lt grown all edge way leaves =
      reached_kept Chosen k j edge old new lt grown (all edge way (leaves ∙ ap (λ (e : Entry). e.point) (grown_entry Chosen k j old new lt grown)))

-- an entry that is at the point that is asked for, after a strict step where one is
ends : (to : ℕ) (strict : Bool) (entry : Entry) → is_end to strict entry ≡ true ↔ ((entry.point ≡ to) × (strict ≡ true → entry.strict ≡ true))
ends to true entry = (λ e. (grind (arith, nat_tests), λ s. grind (arith, nat_tests)), λ h. let at = h.0 in let is = h.1 refl in grind (arith, nat_tests))
ends to false entry = (λ e. (grind (arith, nat_tests), λ s. cc), λ h. let at = h.0 in grind (arith, nat_tests))

-- where no first one is found, there is none
none_found : {X : Type 0} (p : X → Bool) (xs : List X) → position p xs ≡ None → Any (λ x. p x ≡ true) xs → ⊥
none_found p xs no_place h = elim (cases_lt (position_or_len p xs) (length xs)) [
  | inl within ↦ let test = lt-ltb (position_or_len p xs) (length xs) within in let both : None ≡ Some (position_or_len p xs) = sym no_place ∙ ap (λ (b : Bool). cond b (Some (position_or_len p xs)) None) test in cc
  | inr past ↦
      let lt = h.2 in
      let fails : p (get_or xs h.0 h.1) ≡ false = fails_before_first p xs h.0 h.1 (omega arith) in
      let both : true ≡ false = sym h.4 ∙ ap p (sym h.3) ∙ fails in cc
]

-- a step of the calendar uses no link
dated_uses : (Chosen : ℕ → Type 0) (step : Step) → IsDated step → Uses Chosen step
dated_uses Chosen (Calendar p q) is = tt
dated_uses Chosen (Link k i) is = absurd is
dated_uses Chosen (Span i) is = absurd is

module _ (net : PlainNet) (keep : List Bool) (graph : Graph) (edges : AreEdges net keep graph.edges.items) where
  -- the steps that may be taken are those over spans, the calendar and the links that are kept
  way_goes : (edge : Edge) → IsWay net graph edge → GoesBy net (Kept keep) edge.step edge.atom
  way_goes edge way = elim way [
    | inl listed ↦ ((edges edge).0 listed).1
    | inr dated ↦ (dated.1, dated_uses (Kept keep) edge.step dated.0)
  ]

  goes_way : (step : Step) (atom : Atom) → GoesBy net (Kept keep) step atom → IsWay net graph (record { step = step; atom = atom })
  goes_way (Calendar p q) atom goes = inr (tt, goes.0)
  goes_way (Link k i) atom goes = inl ((edges (record { step = Link k i; atom = atom })).1 (λ dated. dated, goes))
  goes_way (Span i) atom goes = inl ((edges (record { step = Span i; atom = atom })).1 (λ dated. dated, goes))

  module _ (from : ℕ) (entries : List Entry) where
    -- the steps by which a search came from one entry to another are joined
    path_joined : AreTraced (IsWay net graph) from entries → (steps : List Step) (last k : ℕ) → IsPath entries last k steps
        → IsJoined net (Kept keep) steps (entry_at entries k).point (entry_at entries last).point × (((entry_at entries k).strict || has_strict net steps) ≡ (entry_at entries last).strict)
    path_joined traced [] last k path = (ap (λ (j : ℕ). (entry_at entries j).point) path, or-false (entry_at entries k).strict ∙ ap (λ (j : ℕ). (entry_at entries j).strict) path)
    path_joined traced (step ∷ steps) last k path =
        let next = path.0 in
        let came : Arrival = record { parent = k; step = step } in
        let rest = path_joined traced steps last next path.3 in
        elim (traced next path.1) [
          | inl start ↦ let both : None ≡ Some came = sym (ap (λ (e : Entry). e.arrival) start) ∙ path.2 in cc
          | inr led ↦
              let parent = led.0 in
              let edge = led.2.0 in
              let is = led.2.3 in
              let arrival : record { parent = parent; step = edge.step } ≡ came = same_Some (record { parent = parent; step = edge.step }) came (sym (ap (λ (e : Entry). e.arrival) is) ∙ path.2) in
              let same : parent ≡ k = ap (λ (a : Arrival). a.parent) arrival in
              let goes = subst (λ (s : Step). GoesBy net (Kept keep) s edge.atom) (ap (λ (a : Arrival). a.step) arrival) (way_goes edge led.2.1) in
              let flag : ((entry_at entries k).strict || is_strict_order (atom_of net step)) ≡ (entry_at entries next).strict =
              ap (λ (b : Bool). (entry_at entries k).strict || b) (ap is_strict_order goes.0) ∙ ap (λ (j : ℕ). (entry_at entries j).strict || edge.atom.strict) (sym same) ∙ sym (ap (λ (e : Entry). e.strict) is) in (
                (edge.atom, goes, led.2.2 ∙ ap (λ (j : ℕ). (entry_at entries j).point) same, subst (λ (p : ℕ). IsJoined net (Kept keep) steps p (entry_at entries last).point) (ap (λ (e : Entry). e.point) is) rest.0),
                sym (or_assoc (entry_at entries k).strict (is_strict_order (atom_of net step)) (has_strict net steps)) ∙ ap (λ (b : Bool). b || has_strict net steps) flag ∙ rest.1,
              )
        ]

    -- where all entries are expanded, joined steps lead to one
    reach : ((k : ℕ) → k < length entries → IsExpanded (IsWay net graph) entries k) → (steps : List Step) (x y : ℕ) (strict : Bool)
        → IsJoined net (Kept keep) steps x y → HasState entries x strict → HasState entries y (strict || has_strict net steps)
    reach all [] x y strict joined has = (has.0, has.1, has.2, has.3, (has.4.0 ∙ joined, has.4.1 ∙ sym (or-false strict)))
    reach all (step ∷ steps) x y strict joined has =
        let atom = joined.0 in
        let goes = joined.1 in
        let at : entry_at entries has.0 ≡ has.1 = get_or_default entries has.0 (start_entry 0) has.1 has.2 ∙ has.3 in
        let reached = all has.0 has.2 (record { step = step; atom = atom }) (goes_way step atom goes) (joined.2 ∙ sym (ap (λ (e : Entry). e.point) at ∙ has.4.0)) in
        let flag : ((entry_at entries has.0).strict || atom.strict) ≡ (strict || is_strict_order (atom_of net step)) =
        ap (λ (b : Bool). b || atom.strict) (ap (λ (e : Entry). e.strict) at ∙ has.4.1) ∙ ap (λ (b : Bool). strict || b) (sym (ap is_strict_order goes.0)) in
        subst (HasState entries y) (or_assoc strict (is_strict_order (atom_of net step)) (has_strict net steps))
        (reach all steps atom.to y (strict || is_strict_order (atom_of net step)) joined.3 (subst (HasState entries atom.to) flag reached))

  module _ (from to : ℕ) (strict : Bool) (states : PlainStates) (searched : IsSearched net graph from to strict states) where
    -- the steps to an entry that is found are a walk
    pub found_walk : (last first : ℕ) (steps : List Step) → position (is_end to strict) states.entries ≡ Some last → first < length states.entries → (entry_at states.entries first).arrival ≡ None
        → IsPath states.entries last first steps → IsWalk net (Kept keep) from to strict steps
    found_walk last first steps found lt came path =
        let joined = path_joined from states.entries searched.traced steps last first path in
        let end = (ends to strict (entry_at states.entries last)).0 (position-Some (is_end to strict) states.entries last (start_entry 0) found).1 in
        elim (searched.traced first lt) [
          | inl start ↦ (
            subst (λ (x : ℕ). IsJoined net (Kept keep) steps x to) (ap (λ (e : Entry). e.point) start) (subst (IsJoined net (Kept keep) steps (entry_at states.entries first).point) end.0 joined.0),
            λ e. ap (λ (x : Entry). x.strict || has_strict net steps) (sym start) ∙ joined.1 ∙ end.1 e,
          )
          | inr led ↦ let arrival : Arrival = record { parent = led.0; step = led.2.0.step } in let both : None ≡ Some arrival = sym came ∙ ap (λ (e : Entry). e.arrival) led.2.3 in cc
        ]

    -- where no entry is found there is no walk
    pub no_walk : position (is_end to strict) states.entries ≡ None → HasWalk net (Kept keep) from to strict → ⊥
    no_walk no_place walk =
        let no_end = none_found (is_end to strict) states.entries no_place in
        elim searched.done [
          | inl end ↦ no_end end
          | inr all ↦
              let start = entry_at states.entries 0 in
              let first : HasState states.entries from false = (0, start, searched.some, get_or_default states.entries 0 start (start_entry 0) searched.some, (ap (λ (e : Entry). e.point) searched.start, ap (λ (e : Entry). e.strict) searched.start)) in
              let last = reach from states.entries all walk.0 from to false walk.1.0 first in
              no_end (last.0, last.1, last.2, last.3, (ends to strict last.1).1 (last.4.0, λ e. last.4.1 ∙ walk.1.1 e))
        ]
