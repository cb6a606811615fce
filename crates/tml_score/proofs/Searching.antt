-- What a search finds follows, and what it doesn't find can fail.
use Rattle.std.proofs.Common.{◌≡◌, ◌≢◌, ◌↔◌, ◌⊎◌, inl, inr, ℕ, ◌<◌, ◌≤◌, ◌==◌, Bool, true, false, not, ◌&&◌, ◌||◌, List, [], ◌∷◌, length, slice_index_or, Option, Some, None, refl, sym, ap, subst, ◌∙◌, arith}
use Rattle.std.specs.List.{All, Contains, filter}
use Rattle.std.proofs.lemmas.Bool.{cases_eq, eq-eqb, ne_eqb}
use Rattle.std.proofs.lemmas.List.Elements.{All-contains, All-get_or}
use Rattle.net_orders.specs.declared.orders.Order.{Order}
use Rattle.clash.proofs.Entailing.{given_holds, held_given}
use Rattle.net_orders.proofs.LinkAtoms.{link_said}
use Rattle.clash.proofs.Paths.{AllTrue, Leads, any_strict, leads_kept, path_kept, path_or_counter}
use Rattle.net_core.specs.Atoms.{IsInOrder, IsInRange, Satisfies}
use Rattle.net_core.specs.Clashes.{Others}
use Rattle.net_core.specs.Entailment.{Always}
use Rattle.net_core.specs.Fits.{EveryLink, Fits, FitsWith}
use Rattle.net_core.specs.Nets.{PlainNet, link_at, points}
use Rattle.net_core.specs.Relations.{Timeline}
use Rattle.net_core.specs.Walks.{Kept}
use Rattle.net_core.specs.declared.atom.Atom.{Atom}
use Rattle.net_core.specs.declared.net.NetLink.{NetLink}
use Rattle.net_core.specs.declared.rels.Rel.TheVariants as rel
use Rattle.net_core.proofs.StepLaws.{fits_fewer}
use Rattle.net_core.proofs.WalkLaws.{in_order_then, in_order_weaker}
use Rattle.order_closure.specs.Cells.{order, strength}
use Rattle.order_closure.specs.Tables.{cell_at}
use Rattle.order_closure.specs.declared.cell.Cell.{Cell}
use Rattle.order_closure.specs.declared.cell.Cell.TheVariants.{Free, Strict, Weak}
use Rattle.tml_score.specs.Meeting.{IsLedTo, IsPassedAt, IsWith}
use Rattle.tml_score.specs.Graph.{counts, link_atoms}
use Rattle.tml_score.specs.declared.search.AskedOrder.{AskedOrder}
use Rattle.tml_score.specs.Search.{AreThrough, Basis, ComesNear, Decides, HasEnough, IsAsked, IsLed, IsPassed, IsReady, IsThrough, IsRemainingWay, LeadsOut, Rest, is_other}
use Rattle.tml_score.proofs.GraphLaws.{in_range, link_in_range, orders_say}
use Rattle.tml_score.proofs.Nested.{nested_atoms}
use Rattle.clash.proofs.Elements.{in_filter}

-- the order of points that an edge is
abbrev atom_of : Order → Atom
atom_of o = o.atom

-- another link that is kept passes the test, and the other way round
pub other_kept : (keep : List Bool) (link k : ℕ) → (is_other keep link k ≡ true) ↔ Others (Kept keep) link k
other_kept keep link k = elim (cases_eq k link) [
  | inl same ↦ (
    λ passes. absurd (let is : (k == link) ≡ true = eq-eqb k link same in let both : false ≡ true = sym (ap (λ (b : Bool). not b && slice_index_or keep k false) is) ∙ passes in cc),
    λ other. absurd (other.1 same),
  )
  | inr ne ↦
      let is : (k == link) ≡ false = ne_eqb k link ne in
      let same : is_other keep link k ≡ slice_index_or keep k false = ap (λ (b : Bool). not b && slice_index_or keep k false) is in
      (λ passes. (sym same ∙ passes, ne), λ other. same ∙ other.0)
]

-- a cell that says something isn't free
some_said : (x : Cell) → (x ≡ Free → ⊥) → 1 ≤ strength x
some_said Free not = absurd (not refl)
some_said Weak not = omega arith
some_said Strict not = omega arith

not_free : (x : Cell) → 1 ≤ strength x → x ≡ Free → ⊥
not_free Free h e = omega arith
not_free Weak h e = cc
not_free Strict h e = cc

-- an order that isn't strict, and what is left to be strict
left_strict : (s o : Bool) → s ≡ true → (false || (o || (s && not o))) ≡ true
left_strict true true e = refl
left_strict true false e = refl
left_strict false o e = absurd cc

-- what is left to be strict is so of a path that is strict with one step more
rest_strict : (s o r : Bool) → (s ≡ true → (o || r) ≡ true) → (s && not o) ≡ true → r ≡ true
rest_strict true true r h e = absurd cc
rest_strict true false r h e = h refl
rest_strict false o r h e = absurd cc

module _ (basis : Basis) (asked : AskedOrder) (ready : IsReady basis) (is : IsAsked basis asked) where
  abbrev net : PlainNet
  net = basis.net

  abbrev p : ℕ
  p = asked.order.from

  abbrev q : ℕ
  q = asked.order.to

  abbrev u : Timeline
  u = ready.fits.0

  -- the orders of links that pass a test
  abbrev edges_of : (ℕ → Bool) → List Order
  edges_of test = filter (λ (o : Order). counts test o.link) basis.graph.onward.items

  abbrev kept_test : ℕ → Bool
  kept_test k = slice_index_or basis.keep k false

  abbrev rest : List Order
  rest = edges_of (is_other basis.keep asked.link)

  abbrev kept : List Order
  kept = edges_of kept_test

  within : (test : ℕ → Bool) (o : Order) → Contains (edges_of test) o ↔ (Contains basis.graph.onward.items o × (counts test o.link ≡ true))
  within test o = in_filter (λ (x : Order). counts test x.link) basis.graph.onward.items o

  -- edges are true if their links hold
  edges_true : (test : ℕ → Bool) (t : Timeline) → FitsWith net (λ k. test k ≡ true) t ↔ AllTrue atom_of (edges_of test) t
  edges_true test t =
      let say = orders_say net ready.net basis.graph.onward.items ready.graph.orders test t in (
        λ fits o among. let both = (within test o).0 among in say.0 fits o both.0 both.1,
        λ all. say.1 (λ o among passes. all o ((within test o).1 (among, passes))),
      )

  edge_range : (test : ℕ → Bool) (o : Order) → Contains (edges_of test) o → IsInRange (points net) o.atom
  edge_range test o among = in_range net ready.net basis.graph.onward.items ready.graph.orders o ((within test o).0 among).0

  rest_true : (t : Timeline) → FitsWith net (Rest basis asked) t → AllTrue atom_of rest t
  rest_true t fits = (edges_true (is_other basis.keep asked.link) t).0 (fits_fewer net (Rest basis asked) (λ k. is_other basis.keep asked.link k ≡ true) t (λ k below passes. (other_kept basis.keep asked.link k).0 passes) fits)

  true_rest : (t : Timeline) → AllTrue atom_of rest t → FitsWith net (Rest basis asked) t
  true_rest t all = fits_fewer net (λ k. is_other basis.keep asked.link k ≡ true) (Rest basis asked) t (λ k below other. (other_kept basis.keep asked.link k).1 other) ((edges_true (is_other basis.keep asked.link) t).1 all)

  kept_true : (t : Timeline) → Fits net t → AllTrue atom_of kept t
  kept_true t fits = (edges_true kept_test t).0 (fits_fewer net EveryLink (Kept basis.keep) t (λ k below kept. tt) fits)

  true_kept : (t : Timeline) → AllTrue atom_of kept t → Fits net t
  true_kept t all = ready.same t ((edges_true kept_test t).1 all)

  rest_fits : (t : Timeline) → Fits net t → FitsWith net (Rest basis asked) t
  rest_fits t fits = fits_fewer net EveryLink (Rest basis asked) t (λ k below other. tt) fits

  -- ---- what the search knows

  pub way_range : (o : Order) → IsRemainingWay basis asked o → IsInRange (points net) o.atom
  way_range o way = in_range net ready.net basis.graph.onward.items ready.graph.orders o way.0

  pub asked_range : IsInRange (points net) asked.order
  asked_range = link_in_range net ready.net asked.link is.link asked.order is.order

  pub way_true : (t : Timeline) → FitsWith net (Rest basis asked) t → (o : Order) → IsRemainingWay basis asked o → Satisfies t o.atom
  way_true t fits o way = rest_true t fits o ((within (is_other basis.keep asked.link) o).1 way)

  -- what the table gives always holds, and the other way round
  always : (x y : ℕ) (strict : Bool) → x < points net → y < points net → strength (order strict) ≤ strength (cell_at basis.table x y) → Always net strict x y
  always x y strict lx ly gives = given_holds net basis.table ready.closure (record { from = x; to = y; strict = strict }) (lx, ly) gives

  given : (x y : ℕ) (strict : Bool) → x < points net → y < points net → Always net strict x y → strength (order strict) ≤ strength (cell_at basis.table x y)
  given x y strict lx ly holds = held_given net basis.table ready.closure (record { from = x; to = y; strict = strict }) (lx, ly) holds

  -- the search starts at the first point
  pub starts_through : (p ≡ q → ⊥) → IsThrough basis asked p
  starts_through ne = record {
    led = λ t fits. omega arith;
    back = not_free (cell_at basis.table p p) (given p p false asked_range.0 asked_range.0 (λ t fits. omega arith));
    not_last = ne;
  }

  -- a way from a point after the first leads to one after it
  pub goes_on : (o : Order) → IsRemainingWay basis asked o → IsLed basis asked o.atom.from → IsLed basis asked o.atom.to
  goes_on o way led = λ t fits.
      let first = led t fits in
      let step : t o.atom.from ≤ t o.atom.to = in_order_weaker false o.atom.strict (t o.atom.from) (t o.atom.to) (λ e. cc) (way_true t fits o way) in
      omega (arith, first, step)

  -- and goes on to a point that a way leads to, which doesn't lead out
  pub goes_through : (o : Order) → IsRemainingWay basis asked o → IsLed basis asked o.atom.from → (LeadsOut basis asked o → ⊥) → IsThrough basis asked o.atom.to
  goes_through o way led not = record {
    led = goes_on o way led;
    back = λ free. not (inr free);
    not_last = λ last. not (inl last);
  }

  -- a way to a point that the search goes through doesn't lead out
  pub not_out : (o : Order) → IsThrough basis asked o.atom.to → LeadsOut basis asked o → ⊥
  not_out o through out = elim out [ inl last ↦ through.not_last last | inr free ↦ through.back free ]

  -- the order that is asked for always holds
  own : (t : Timeline) → Fits net t → Satisfies t asked.order
  own t all = All-contains (Satisfies t) (link_atoms net asked.link) asked.order ((link_said net asked.link (link_atoms net asked.link) refl t).1 (all.links asked.link is.link tt)) is.order

  -- a point at or before the first one is at or before the last
  near_last : (x : ℕ) → x < points net → (cell_at basis.table x p ≡ Free → ⊥) → 1 ≤ strength (cell_at basis.table x q)
  near_last x lt not = given x q false lt asked_range.1 (λ t fits.
      let back = always x p false lt asked_range.0 (some_said (cell_at basis.table x p) not) t fits in
      let on : t p ≤ t q = in_order_weaker false asked.order.strict (t p) (t q) (λ e. cc) (own t fits) in
      omega (arith, back, on))

  -- an order that does not come near the last point is passed
  pub passed_away : (xs : List ℕ) (o : Order) → o.atom.to < points net → (ComesNear basis asked o → ⊥) → IsPassed basis asked xs o
  passed_away xs o lt away = (
    λ enough. away (not_free (cell_at basis.table o.atom.to q) (says (asked.order.strict && not o.atom.strict) enough.1)),
    inl (inr (free_or (cell_at basis.table o.atom.to p) (λ not. away (not_free (cell_at basis.table o.atom.to q) (near_last o.atom.to lt not))))),
  )
    where
      says : (s : Bool) → strength (order s) ≤ strength (cell_at basis.table o.atom.to q) → 1 ≤ strength (cell_at basis.table o.atom.to q)
      says true gives = omega arith
      says false gives = gives

      free_or : (x : Cell) → ((x ≡ Free → ⊥) → ⊥) → x ≡ Free
      free_or Free not = refl
      free_or Weak not = absurd (not (λ e. cc))
      free_or Strict not = absurd (not (λ e. cc))

  -- ---- what is found follows

  -- an edge of the links that are kept is of the link itself, or of the rest
  own_or_rest : (o : Order) → Contains kept o → (o.link ≡ Some asked.link) ⊎ Contains rest o
  own_or_rest o among =
      let both = (within kept_test o).0 among in
      by o.link refl both.0 both.1
    where
      by : (l : Option ℕ) → o.link ≡ l → Contains basis.graph.onward.items o → counts kept_test o.link ≡ true → (o.link ≡ Some asked.link) ⊎ Contains rest o
      by None e there passes = inr ((within (is_other basis.keep asked.link) o).1 (there, ap (counts (is_other basis.keep asked.link)) e))
      by (Some k) e there passes = elim (cases_eq k asked.link) [
        | inl same ↦ inl (e ∙ ap Some same)
        | inr other ↦ inr ((within (is_other basis.keep asked.link) o).1 (there, ap (counts (is_other basis.keep asked.link)) e ∙ (other_kept basis.keep asked.link k).1 (sym (ap (counts kept_test) e) ∙ passes, other)))
      ]

  -- steps lead over an order of the link itself
  abbrev GoesOverOwn : ℕ → ℕ → Type 0
  GoesOverOwn x y = (o : Order) × (o.link ≡ Some asked.link) × Contains basis.graph.onward.items o × ((t : Timeline) → Fits net t → t x ≤ t o.atom.from) × ((t : Timeline) → Fits net t → t o.atom.to ≤ t y)

  -- steps over the links that are kept are steps over the rest, or lead over the link itself
  splits : (es : List Order) (x y : ℕ) → Leads atom_of kept es x y → Leads atom_of rest es x y ⊎ GoesOverOwn x y
  splits [] x y leads = inl leads
  splits (e ∷ es) x y leads = elim (own_or_rest e leads.0) [
    | inl own ↦ inr (
      e,
      own,
      ((within kept_test e).0 leads.0).0,
      λ t fits. subst (λ (z : ℕ). t x ≤ t z) (sym leads.1) (omega arith),
      λ t fits. in_order_weaker false (any_strict atom_of kept es) (t e.atom.to) (t y) (λ e. cc) (leads_kept atom_of kept t es e.atom.to y (kept_true t fits) leads.2),
    )
    | inr among ↦ elim (splits es e.atom.to y leads.2) [
      | inl others ↦ inl (among, leads.1, others)
      | inr found ↦ inr (
        found.0,
        found.1,
        found.2,
        λ t fits.
            let step : t e.atom.from ≤ t e.atom.to = in_order_weaker false e.atom.strict (t e.atom.from) (t e.atom.to) (λ e. cc) (kept_true t fits e leads.0) in
            let first : t x ≡ t e.atom.from = ap t (sym leads.1) in
            let on = found.3 t fits in
            omega (arith, step, first, on),
        found.4,
      )
    ]
  ]

  -- an order of the link itself is nested with the one that is asked for
  own_nested : (o : Order) → o.link ≡ Some asked.link → Contains basis.graph.onward.items o → (t : Timeline) → Fits net t → t o.atom.to ≤ t q → t o.atom.from ≤ t p
  own_nested o own there t fits le =
      let link = link_at net asked.link in
      let ends = All-get_or (λ (l : NetLink). (l.a < length net.bounds) × (l.b < length net.bounds)) net.links asked.link (record { a = 0; rel = rel.Before; b = 0 }) is.link ready.net.ends in
      nested_atoms t link.rel link.a link.b (fits.order link.a ends.0) (fits.order link.b ends.1) (fits.links asked.link is.link tt) asked.order o.atom is.order among le
    where
      among : Contains (link_atoms net asked.link) o.atom
      among = elim ((ready.graph.orders.all o).0 there) [
        | inl fixed ↦ absurd (let both : None ≡ Some asked.link = sym fixed.0 ∙ own in cc)
        | inr linked ↦ let same : linked.0 ≡ asked.link = let e = linked.2.0 in cc in subst (λ (k : ℕ). Contains (link_atoms net k) o.atom) same linked.2.1
      ]

  -- what the table gives from where a way leads out holds by the rest
  onward : (o : Order) (s : Bool) → o.atom.to < points net → LeadsOut basis asked o → strength (order s) ≤ strength (cell_at basis.table o.atom.to q) → (t : Timeline) → FitsWith net (Rest basis asked) t → IsInOrder s (t o.atom.to) (t q)
  onward o s lo (inl last) gives t fits = at_end s gives
    where
      at_end : (s : Bool) → strength (order s) ≤ strength (cell_at basis.table o.atom.to q) → IsInOrder s (t o.atom.to) (t q)
      at_end false gives = subst (λ (z : ℕ). t o.atom.to ≤ t z) last (omega arith)
      at_end true gives = absurd (let less : u o.atom.to < u q = always o.atom.to q true lo asked_range.1 gives u ready.fits.1 in let e = ap u last in omega arith)
  onward o s lo (inr free) gives t fits = elim (path_or_counter atom_of kept (points net) (edge_range kept_test) u (kept_true u ready.fits.1) o.atom.to q s lo asked_range.1) [
    | inr counter ↦ absurd (counter.2 (always o.atom.to q s lo asked_range.1 gives counter.0 (true_kept counter.0 counter.1)))
    | inl path ↦ elim (splits path.0 o.atom.to q path.1.0) [
      | inl others ↦ path_kept atom_of rest t o.atom.to q s (rest_true t fits) (path.0, (others, path.1.1))
      | inr own ↦ absurd (not_free (cell_at basis.table o.atom.to p) (given o.atom.to p false lo asked_range.0 (λ v all.
          let first = own.3 v all in
          let second = own_nested own.0 own.1 own.2 v all (own.4 v all) in
          omega (arith, first, second))) free)
    ]
  ]

  -- if a way is enough, the order always holds with the rest
  pub found_follows : HasEnough basis asked → Decides basis asked true
  found_follows found = λ t fits.
      let o = found.0 in
      let s = asked.order.strict && not o.atom.strict in
      let on = onward o s (way_range o found.1).1 found.3.0 found.3.1 t fits in
      let step = in_order_then o.atom.strict s (t o.atom.from) (t o.atom.to) (t q) (way_true t fits o found.1) on in
      in_order_weaker asked.order.strict (false || (o.atom.strict || s)) (t p) (t q) (left_strict asked.order.strict o.atom.strict)
      (in_order_then false (o.atom.strict || s) (t p) (t o.atom.from) (t q) (found.2 t fits) step)

  -- an order from a point to itself always holds
  pub itself_follows : p ≡ q → Decides basis asked true
  itself_follows same = λ t fits. by asked.order.strict own t
    where
      by : (s : Bool) → ((v : Timeline) → Fits net v → IsInOrder s (v p) (v q)) → (t : Timeline) → IsInOrder s (t p) (t q)
      by false holds t = subst (λ (z : ℕ). t p ≤ t z) same (omega arith)
      by true holds t = absurd (let less = holds u ready.fits.1 in let e = ap u same in omega arith)

  -- ---- what isn't found can fail

  module _ (xs : List ℕ) (through : AreThrough basis asked xs) (passed : (o : Order) → IsRemainingWay basis asked o → Contains xs o.atom.from → IsPassed basis asked xs o) where
    at : (x : ℕ) → Contains xs x → IsThrough basis asked x
    at x among = All-contains (IsThrough basis asked) xs x through among

    -- no path over the rest leads from a point that the search goes through to the last one
    no_path : (es : List Order) (x : ℕ) → Contains xs x → Leads atom_of rest es x q → (asked.order.strict ≡ true → any_strict atom_of rest es ≡ true) → ⊥
    no_path [] x among leads strict = (at x among).not_last leads
    no_path (e ∷ es) x among leads strict =
        let way = (within (is_other basis.keep asked.link) e).0 leads.0 in
        let range = way_range e way in
        let from : Contains xs e.atom.from = subst (Contains xs) (sym leads.1) among in
        let pass = passed e way from in
        elim pass.1 [
          | inl out ↦ pass.0 (
            out,
            given e.atom.to q (asked.order.strict && not e.atom.strict) range.1 asked_range.1 (λ t fits.
                in_order_weaker (asked.order.strict && not e.atom.strict) (any_strict atom_of rest es) (t e.atom.to) (t q) (rest_strict asked.order.strict e.atom.strict (any_strict atom_of rest es) strict)
                (leads_kept atom_of rest t es e.atom.to q (rest_true t (rest_fits t fits)) leads.2)),
          )
          | inr next ↦ no_path es e.atom.to next leads.2 (λ s. later e.atom.strict refl (strict s) way (at e.atom.from from) (at e.atom.to next))
        ]
      where
        later : (o : Bool) → e.atom.strict ≡ o → (e.atom.strict || any_strict atom_of rest es) ≡ true → IsRemainingWay basis asked e → IsThrough basis asked e.atom.from → IsThrough basis asked e.atom.to → any_strict atom_of rest es ≡ true
        later false eq some way here there = sym (ap (λ (b : Bool). b || any_strict atom_of rest es) eq) ∙ some
        later true eq some way here there = absurd (
            let step : u e.atom.from < u e.atom.to = subst (λ (b : Bool). IsInOrder b (u e.atom.from) (u e.atom.to)) eq (way_true u (rest_fits u ready.fits.1) e way) in
            let led = here.led u (rest_fits u ready.fits.1) in
            let back = always e.atom.to p false (way_range e way).1 asked_range.0 (some_said (cell_at basis.table e.atom.to p) there.back) u ready.fits.1 in
            omega (arith, step, led, back))

    -- so the order can fail
    pub exhausted_fails : Contains xs p → Decides basis asked false
    exhausted_fails first = elim (path_or_counter atom_of rest (points net) (edge_range (is_other basis.keep asked.link)) u (rest_true u (rest_fits u ready.fits.1)) p q asked.order.strict asked_range.0 asked_range.1) [
      | inl path ↦ absurd (no_path path.0 p first path.1.0 path.1.1)
      | inr counter ↦ (counter.0, true_rest counter.0 counter.1, counter.2)
    ]

  -- ---- points at one place

  -- and one to a point before the last begins before it
  pub goes_back : (o : Order) → IsRemainingWay basis asked o → IsLedTo basis asked o.atom.to → IsLedTo basis asked o.atom.from
  goes_back o way to = λ t fits.
      let last = to t fits in
      let step : t o.atom.from ≤ t o.atom.to = in_order_weaker false o.atom.strict (t o.atom.from) (t o.atom.to) (λ e. cc) (way_true t fits o way) in
      omega (arith, last, step)

  module _ (one_place : cell_at basis.table q p ≢ Free) where
    -- a point between the first and the last is at their place
    between_with : (x : ℕ) → x < points net → ((t : Timeline) → Fits net t → t p ≤ t x) → ((t : Timeline) → Fits net t → t x ≤ t q) → IsWith basis asked x
    between_with x lx after before =
        let back = always q p false asked_range.1 asked_range.0 (some_said (cell_at basis.table q p) one_place) in (
          not_free (cell_at basis.table x p) (given x p false lx asked_range.0 (λ t fits. let a = before t fits in let b = back t fits in omega (arith, a, b))),
          not_free (cell_at basis.table p x) (given p x false asked_range.0 lx after),
        )

    -- steps from a point after the first are among points at its place
    step_with : (e : Order) (es : List Order) (x : ℕ) → IsLed basis asked x → Leads atom_of rest (e ∷ es) x q → IsWith basis asked e.atom.from × IsWith basis asked e.atom.to × IsLed basis asked e.atom.to
    step_with e es x led leads =
        let way = (within (is_other basis.keep asked.link) e).0 leads.0 in
        let range = way_range e way in
        let from : IsLed basis asked e.atom.from = subst (IsLed basis asked) (sym leads.1) led in
        let step = λ (t : Timeline) (fits : FitsWith net (Rest basis asked) t). weaker t e (way_true t fits e way) in
        let to : IsLed basis asked e.atom.to = λ t fits. let a = from t fits in let b = step t fits in omega (arith, a, b) in
        let on = λ (t : Timeline) (fits : Fits net t). in_order_weaker false (any_strict atom_of rest es) (t e.atom.to) (t q) (λ s. cc) (leads_kept atom_of rest t es e.atom.to q (rest_true t (rest_fits t fits)) leads.2) in (
          between_with e.atom.from range.0 (λ t fits. from t (rest_fits t fits)) (λ t fits. let a = step t (rest_fits t fits) in let b = on t fits in omega (arith, a, b)),
          between_with e.atom.to range.1 (λ t fits. to t (rest_fits t fits)) on,
          to,
        )
      where
        weaker : (t : Timeline) (o : Order) → Satisfies t o.atom → t o.atom.from ≤ t o.atom.to
        weaker t o holds = in_order_weaker false o.atom.strict (t o.atom.from) (t o.atom.to) (λ s. cc) holds

    -- a side whose ways onward are all passed has the last point, if a path leads there
    on_to_last : (xs : List ℕ) → All (IsLed basis asked) xs → ((o : Order) → IsRemainingWay basis asked o → Contains xs o.atom.from → IsPassedAt basis asked xs o.atom.to)
        → (es : List Order) (x : ℕ) → Contains xs x → Leads atom_of rest es x q → Contains xs q
    on_to_last xs led passed [] x among leads = subst (Contains xs) leads among
    on_to_last xs led passed (e ∷ es) x among leads =
        let way = (within (is_other basis.keep asked.link) e).0 leads.0 in
        let here = step_with e es x (All-contains (IsLed basis asked) xs x led among) leads in
        elim (passed e way (subst (Contains xs) (sym leads.1) among)) [
          | inl next ↦ on_to_last xs led passed es e.atom.to next leads.2
          | inr not ↦ absurd (not here.1)
        ]

    -- and one whose ways back are all passed has each point from which a path leads to the last
    back_to_first : (ys : List ℕ) → Contains ys q → ((o : Order) → IsRemainingWay basis asked o → Contains ys o.atom.to → IsPassedAt basis asked ys o.atom.from)
        → (es : List Order) (x : ℕ) → IsLed basis asked x → Leads atom_of rest es x q → Contains ys x
    back_to_first ys last passed [] x led leads = subst (Contains ys) (sym leads) last
    back_to_first ys last passed (e ∷ es) x led leads =
        let way = (within (is_other basis.keep asked.link) e).0 leads.0 in
        let here = step_with e es x led leads in
        elim (passed e way (back_to_first ys last passed es e.atom.to here.2 leads.2)) [
          | inl there ↦ subst (Contains ys) leads.1 there
          | inr not ↦ absurd (not here.0)
        ]

    -- a path leads to the last point, or the order can fail
    path_or_fails : ((es : List Order) → Leads atom_of rest es p q → ⊥) → Decides basis asked false
    path_or_fails none = elim (path_or_counter atom_of rest (points net) (edge_range (is_other basis.keep asked.link)) u (rest_true u (rest_fits u ready.fits.1)) p q asked.order.strict asked_range.0 asked_range.1) [
      | inl path ↦ absurd (none path.0 path.1.0)
      | inr counter ↦ (counter.0, true_rest counter.0 counter.1, counter.2)
    ]

    -- if a side onward is at its end without the last point, the order can fail
    pub onward_ends : (xs : List ℕ) → All (IsLed basis asked) xs → Contains xs p → (Contains xs q → ⊥)
        → ((o : Order) → IsRemainingWay basis asked o → Contains xs o.atom.from → IsPassedAt basis asked xs o.atom.to) → Decides basis asked false
    onward_ends xs led first last passed = path_or_fails (λ es leads. last (on_to_last xs led passed es p first leads))

    -- and so it can if a side back is at its end without the first one
    pub back_ends : (ys : List ℕ) → Contains ys q → (Contains ys p → ⊥)
        → ((o : Order) → IsRemainingWay basis asked o → Contains ys o.atom.to → IsPassedAt basis asked ys o.atom.from) → Decides basis asked false
    back_ends ys last first passed = path_or_fails (λ es leads. first (back_to_first ys last passed es p (λ t fits. omega arith) leads))
