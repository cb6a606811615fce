-- Each order that always holds has a path: orders of points have a closed table whose cells all have paths, or there is a closed walk.
use Rattle.std.proofs.Common.{◌≡◌, ◌↔◌, ℕ, ◌<◌, ◌≤◌, max, Bool, true, false, ◌||◌, List, [], ◌∷◌, ◌++◌, refl, sym, subst, ◌∙◌, arith, ◌⊎◌, inl, inr}
use Rattle.std.specs.List.{AllByRecursion, Contains, list_any}
use Rattle.std.proofs.lemmas.Bool.{cases_lt, cases_eq}
use Rattle.std.proofs.lemmas.Bool.Decides.{nat_tests}
use Rattle.std.proofs.lemmas.List.Elements.{All-contains, All-contains_itself, All-from_recursion, recursion_from_All}
use Rattle.std.proofs.lemmas.List.Folds.{list_any-append}
use Rattle.net_core.specs.Atoms.{IsInOrder, IsInRange, Satisfies}
use Rattle.net_core.specs.Relations.{Timeline}
use Rattle.net_core.specs.declared.atom.Atom.{Atom}
use Rattle.net_core.proofs.WalkLaws.{in_order_then, in_order_weaker}
use Rattle.order_closure.specs.Cells.{CellSays, joined, order, strength, stronger}
use Rattle.order_closure.specs.Counting.{is_strict}
use Rattle.order_closure.specs.Tables.{AreClosed, AreCellsKept, Denies, new_cell, way}
use Rattle.order_closure.specs.declared.cell.Cell.{Cell}
use Rattle.order_closure.specs.declared.cell.Cell.TheVariants.{Free, Weak, Strict}
use Rattle.order_closure.proofs.Adding.{new_closed}
use Rattle.order_closure.proofs.Central.{always_stands, counter_time, denies_or_not, order_says}
use Rattle.order_closure.proofs.Joining.{strength-stronger}
use Rattle.order_closure.proofs.Raising.{raised_closed, raised_kept}
use Rattle.order_closure.proofs.Tables.{new_other}

-- ---- cells

-- a way that says something is made of two cells that do
parts_weak : (a b : Cell) (o : Bool) → 1 ≤ strength (joined (joined a (order o)) b) → (1 ≤ strength a) × (1 ≤ strength b)
parts_weak Free b o h = absurd (omega arith)
parts_weak Weak Free true h = absurd (omega arith)
parts_weak Weak Free false h = absurd (omega arith)
parts_weak Strict Free true h = absurd (omega arith)
parts_weak Strict Free false h = absurd (omega arith)
parts_weak a b o h = (omega arith, omega arith)

-- a strict way has a strict part
parts_strict : (a b : Cell) (o : Bool) → 2 ≤ strength (joined (joined a (order o)) b) → (is_strict a || (o || is_strict b)) ≡ true
parts_strict Strict b o h = refl
parts_strict Weak b true h = refl
parts_strict Weak Strict false h = refl
parts_strict a b o h = absurd (omega arith)

at_least_weak : (strict : Bool) (x : Cell) → strength (order strict) ≤ strength x → 1 ≤ strength x
at_least_weak true x h = omega arith
at_least_weak false x h = h

-- the order that a cell says
own : (x : Cell) → 1 ≤ strength x → strength (order (is_strict x)) ≤ strength x
own Free h = absurd (omega arith)
own Weak h = omega arith
own Strict h = omega arith

parts_enough : (a b : Cell) (o strict : Bool) → strength (order strict) ≤ strength (joined (joined a (order o)) b) → strict ≡ true → (is_strict a || (o || is_strict b)) ≡ true
parts_enough a b o true h e = parts_strict a b o h
parts_enough a b o false h e = cc

stronger_parts : (x y : Cell) (m : ℕ) → m ≤ strength (stronger x y) → (m ≤ strength x) ⊎ (m ≤ strength y)
stronger_parts x y m h =
    let le : m ≤ max (strength x) (strength y) = rw strength-stronger at h in
    elim (cases_lt (strength x) m) [
      | inl lt ↦ inr (omega arith)
      | inr here ↦ inl here
    ]

denies_enough : (x : Cell) (o : Bool) → Denies x o → (1 ≤ strength x) × ((o || is_strict x) ≡ true)
denies_enough Strict true h = (omega arith, refl)
denies_enough Strict false h = (omega arith, refl)
denies_enough Weak true h = (omega arith, refl)
denies_enough Weak false h = absurd h
denies_enough Free o h = absurd h

-- what a cell says, from the order that it is
said_by : (x : Cell) (a b : ℕ) → (1 ≤ strength x → IsInOrder (is_strict x) a b) → CellSays x a b
said_by Free a b h = tt
said_by Weak a b h = h (omega arith)
said_by Strict a b h = h (omega arith)

-- a cell of a new table says nothing strictly
not_strict : (i j : ℕ) → 2 ≤ strength (new_cell i j) → ⊥
not_strict i j h = grind (arith, nat_tests)

or_more : (s o r h k : Bool) → (s ≡ true → h ≡ true) → (r ≡ true → k ≡ true) → (s || (o || r)) ≡ true → (h || (o || k)) ≡ true
or_more true o r h k p q e = rw (p refl) refl
or_more false true r true k p q e = refl
or_more false true r false k p q e = refl
or_more false false true true k p q e = refl
or_more false false true false k p q e = q refl
or_more false false false h k p q e = cc

-- ---- paths

module _ {E : Type 0} (atom : E → Atom) (edges : List E) where
  -- the steps are edges of the list, and lead from x to y
  abbrev pub Leads : List E → ℕ → ℕ → Type 0
  Leads [] x y = x ≡ y
  Leads (e ∷ es) x y = Contains edges e × ((atom e).from ≡ x) × Leads es (atom e).to y

  -- whether one of the steps is strict
  abbrev pub any_strict : List E → Bool
  any_strict es = list_any (λ e. (atom e).strict) es

  -- a path from x to y: steps that lead there, one of them strict where that is asked for
  abbrev pub IsPath : List E → ℕ → ℕ → Bool → Type 0
  IsPath es x y strict = Leads es x y × (strict ≡ true → any_strict es ≡ true)

  abbrev pub HasPath : ℕ → ℕ → Bool → Type 0
  HasPath x y strict = (es : List E) × IsPath es x y strict

  -- all edges are true of a timeline
  abbrev pub AllTrue : Timeline → Type 0
  AllTrue t = (e : E) → Contains edges e → Satisfies t (atom e)

  -- where steps lead is later where all edges are true, strictly where one of them is strict
  pub leads_kept : (t : Timeline) (es : List E) (x y : ℕ) → AllTrue t → Leads es x y → IsInOrder (any_strict es) (t x) (t y)
  leads_kept t [] x y all leads = subst (λ (z : ℕ). t x ≤ t z) leads (omega arith)
  leads_kept t (e ∷ es) x y all leads =
      let first : IsInOrder (atom e).strict (t x) (t (atom e).to) = subst (λ (z : ℕ). IsInOrder (atom e).strict (t z) (t (atom e).to)) leads.1 (all e leads.0) in
      in_order_then (atom e).strict (any_strict es) (t x) (t (atom e).to) (t y) first (leads_kept t es (atom e).to y all leads.2)

  -- what a path gives is true there
  pub path_kept : (t : Timeline) (x y : ℕ) (strict : Bool) → AllTrue t → HasPath x y strict → IsInOrder strict (t x) (t y)
  path_kept t x y strict all path = in_order_weaker strict (any_strict path.0) (t x) (t y) path.1.1 (leads_kept t path.0 x y all path.1.0)

  -- steps, and then others
  leads_then : (es more : List E) (x y z : ℕ) → Leads es x y → Leads more y z → Leads (es ++ more) x z
  leads_then [] more x y z first second = subst (λ (w : ℕ). Leads more w z) (sym first) second
  leads_then (e ∷ es) more x y z first second = (first.0, first.1, leads_then es more (atom e).to y z first.2 second)

  -- a path, an edge and a path
  path_through : (e : E) (x y : ℕ) (s r strict : Bool) → Contains edges e → HasPath x (atom e).from s → HasPath (atom e).to y r
      → (strict ≡ true → (s || ((atom e).strict || r)) ≡ true) → HasPath x y strict
  path_through e x y s r strict among v w enough = (
    v.0 ++ e ∷ w.0,
    (
      leads_then v.0 (e ∷ w.0) x (atom e).from y v.1.0 (among, refl, w.1.0),
      λ is. list_any-append (λ (e : E). (atom e).strict) v.0 (e ∷ w.0) ∙ or_more s (atom e).strict r (any_strict v.0) (any_strict w.0) v.1.1 w.1.1 (enough is),
    ),
  )

  module _ (n : ℕ) (range : (e : E) → Contains edges e → IsInRange n (atom e)) where
    -- the cells say at least the order of an edge
    abbrev IsSaid : (ℕ → ℕ → Cell) → E → Type 0
    IsSaid cell e = strength (order (atom e).strict) ≤ strength (cell (atom e).from (atom e).to)

    -- a closed table that says the order of some edges, and nothing without a path
    record HasCells (some : List E) (cell : ℕ → ℕ → Cell) : Type 0 where
      closed : AreClosed n cell
      said : AllByRecursion (IsSaid cell) some
      paths : (i j : ℕ) (strict : Bool) → i < n → j < n → strength (order strict) ≤ strength (cell i j) → HasPath i j strict

    -- there is such a table, or a closed walk: a path from a point to itself with a strict step
    Result : List E → Type 0
    Result some = ((cell : ℕ → ℕ → Cell) × HasCells some cell) ⊎ ((x : ℕ) × HasPath x x true)

    new_paths : (i j : ℕ) (strict : Bool) → strength (order strict) ≤ strength (new_cell i j) → HasPath i j strict
    new_paths i j strict h = elim (cases_eq i j) [
      | inl e ↦ ([], (e, λ s. absurd (let k : 2 ≤ strength (new_cell i j) = subst (λ (b : Bool). strength (order b) ≤ strength (new_cell i j)) s h in not_strict i j k)))
      | inr ne ↦ absurd (let k : 1 ≤ strength Free = subst (λ (x : Cell). 1 ≤ strength x) (new_other i j ne) (at_least_weak strict (new_cell i j) h) in omega arith)
    ]

    -- what weaker cells say, stronger ones do
    said_more : (old new : ℕ → ℕ → Cell) (some : List E) → ((i j : ℕ) → strength (old i j) ≤ strength (new i j)) → AllByRecursion (IsSaid old) some → AllByRecursion (IsSaid new) some
    said_more old new [] more all = tt
    said_more old new (e ∷ some) more all = (let le = all.0 in let up = more (atom e).from (atom e).to in omega arith, said_more old new some more all.1)

    -- one edge more
    raised : (e : E) (some : List E) (cell : ℕ → ℕ → Cell) → Contains edges e → HasCells some cell → Result (e ∷ some)
    unfolding Result
    raised e some cell among has =
        let a = atom e in
        let in_range = range e among in
        let back = cell a.to a.from in
        elim (denies_or_not back a.strict) [
          | yes deny ↦
              let enough = denies_enough back a.strict deny in
              inr (a.from, path_through e a.from a.from false (is_strict back) true among ([], (refl, λ e. cc)) (has.paths a.to a.from (is_strict back) in_range.1 in_range.0 (own back enough.0)) (λ e. enough.1))
          | no fits ↦
              let new = λ (i j : ℕ). stronger (cell i j) (way cell a i j) in
              let still = raised_closed n cell a has.closed in_range.0 in_range.1 fits new (λ i j li lj. refl) in
              inl (
                new,
                record {
                  closed = still;
                  said = (
                    always_stands n new still a.strict a.from a.to in_range.0 in_range.1 (λ t kept. ((raised_kept n cell a has.closed in_range.0 in_range.1 fits new (λ i j li lj. refl) t).0 kept).1),
                    said_more cell new some (λ i j. rw strength-stronger (omega arith)) has.said,
                  );
                  paths = λ i j strict li lj h. elim (stronger_parts (cell i j) (way cell a i j) (strength (order strict)) h) [
                    | inl held ↦ has.paths i j strict li lj held
                    | inr over ↦
                        let x = cell i a.from in
                        let y = cell a.to j in
                        let parts = parts_weak x y a.strict (at_least_weak strict (way cell a i j) over) in
                        path_through e i j (is_strict x) (is_strict y) strict among (has.paths i a.from (is_strict x) li in_range.0 (own x parts.0))
                        (has.paths a.to j (is_strict y) in_range.1 lj (own y parts.1)) (parts_enough x y a.strict strict over)
                  ];
                },
              )
        ]

    result : (some : List E) → AllByRecursion (Contains edges) some → Result some
    unfolding Result
    result [] among = inl (new_cell, record { closed = new_closed n; said = tt; paths = λ i j strict li lj h. new_paths i j strict h })
    result (e ∷ some) among = elim (result some among.1) [
      | inl good ↦ raised e some good.0 among.0 good.1
      | inr bad ↦ inr bad
    ]

    -- A closed table that is kept where all edges are true and nowhere else, and says nothing without a path.
    pub record SaysPaths (cell : ℕ → ℕ → Cell) : Type 0 where
      pub closed : AreClosed n cell
      pub kept : (t : Timeline) → AreCellsKept n cell t ↔ AllTrue t
      pub paths : (i j : ℕ) (strict : Bool) → i < n → j < n → strength (order strict) ≤ strength (cell i j) → HasPath i j strict

    says_paths : (cell : ℕ → ℕ → Cell) → HasCells edges cell → SaysPaths cell
    says_paths cell has = record {
      closed = has.closed;
      kept = λ t. (
        λ kept e among.
            let a = atom e in
            let r = range e among in
            order_says (cell a.from a.to) a.strict (t a.from) (t a.to) (All-contains (IsSaid cell) edges e (All-from_recursion (IsSaid cell) edges has.said) among) (kept a.from a.to r.0 r.1),
        λ all i j li lj. said_by (cell i j) (t i) (t j) (λ some. path_kept t i j (is_strict (cell i j)) all (has.paths i j (is_strict (cell i j)) li lj (own (cell i j) some))),
      );
      paths = has.paths;
    }

    -- the edges have such a table, or a closed walk
    pub table_or_closed_path : ((cell : ℕ → ℕ → Cell) × SaysPaths cell) ⊎ ((x : ℕ) × HasPath x x true)
    unfolding Result
    table_or_closed_path = elim (result edges (recursion_from_All (Contains edges) edges (All-contains_itself edges))) [
      | inl good ↦ inl (good.0, says_paths good.0 good.1)
      | inr closed ↦ inr closed
    ]

    -- in no timeline of which all edges are true is there a closed walk
    pub no_closed_path : (u : Timeline) (x : ℕ) → AllTrue u → HasPath x x true → ⊥
    no_closed_path u x all path = let less : u x < u x = path_kept u x x true all path in omega arith

    -- where all edges are true of some timeline an order has a path, or it is false in some timeline of which they are
    pub path_or_counter : (u : Timeline) → AllTrue u → (p q : ℕ) (strict : Bool) → p < n → q < n
        → HasPath p q strict ⊎ ((t : Timeline) × AllTrue t × (IsInOrder strict (t p) (t q) → ⊥))
    path_or_counter u all p q strict lp lq = elim table_or_closed_path [
      | inl good ↦ elim (cases_lt (strength (good.0 p q)) (strength (order strict))) [
        | inl weaker ↦
            let c = counter_time n good.0 good.1.closed (record { from = p; to = q; strict = strict }) lp lq weaker in
            inr (c.0, (good.1.kept c.0).0 c.1, c.2)
        | inr enough ↦ inl (good.1.paths p q strict lp lq enough)
      ]
      | inr bad ↦ absurd (no_closed_path u bad.0 all bad.1)
    ]
