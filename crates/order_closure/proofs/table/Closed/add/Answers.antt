use Rattle.std.proofs.Common.{◌≡◌, ap, sym, subst, ◌∙◌, ◌<◌, ◌↔◌, arith, List, [], ◌∷◌, ◌++◌, length, get_or, ℕ, ◌+◌, ◌*◌, ◌≤◌}
use Rattle.std.specs.Vec.{with_items}
use Rattle.std.proofs.lemmas.List.{with_items_is}
use Rattle.net_core.specs.Atoms.{Satisfies}
use Rattle.net_core.specs.Relations.{Timeline}
use Rattle.order_closure.specs.declared.cell.Cell.{Cell}
use Rattle.order_closure.specs.Cells.{stronger}
use Rattle.order_closure.specs.Planes.{AreClosedPlanes, BeginWithRow, MarksReached, plane_cell}
use Rattle.order_closure.specs.Tables.{Table, table_of, cell_at, Denies, IsClosed, Stands, Keeps, way}
use Rattle.order_closure.proofs.Joining.{back_is_weak}
use Rattle.order_closure.proofs.Raising.{raised_closed}
use Rattle.order_closure.proofs.Reached.{raised_marked}
use Rattle.order_closure.proofs.Tables.{cell_of_table, table_closed}
use Rattle.order_closure.proofs.Adding.{added_table, added_stands, atom_denied, added_kept, added_cell, not_denied}
use Rattle.order_closure.proofs.table.Closed.add.Goals as goal
use Rattle.order_closure.proofs.table.Closed.add.Goals.{Else-denies, After-raise}

-- the cells that the planes stand for
abbrev cell : Else-denies → ℕ → ℕ → Cell
cell c = plane_cell c.self.inside.width c.self.inside.weak.items c.self.inside.strict.items

closed : (c : Else-denies) → IsClosed c.args.self.now
unfolding AreClosedPlanes
closed c = table_closed c.self.inside.size (cell c) c.args.self.now c.self.view_is c.self.invariant.closed

-- the table does not deny the atom, and neither do the planes
fits : (c : Else-denies) → ¬ Denies (cell_at c.args.self.now c.args.atom.to c.args.atom.from) c.args.atom.strict
fits c = not_denied c.cell.result _ c.args.atom.strict c.denies.result c.denies.ensures c.if-denies.false c.cell.ensures

plane_fits : (c : Else-denies) → ¬ Denies (cell c c.args.atom.to c.args.atom.from) c.args.atom.strict
plane_fits c = subst (λ (x : Cell). ¬ Denies x c.args.atom.strict) (sym (cell_of_table c.self.inside.size (cell c) c.args.self.now c.self.view_is c.args.atom.to c.args.atom.from c.requires.to c.requires.from)) (fits c)

pub raise-requires-clause-fits : goal.raise-requires-clause-fits
raise-requires-clause-fits c =
    let a = (goal.at.raise-requires-clause-fits c).Else-denies in
    rw (c.deref_mut.ensures.value, c.deref_mut-2.ensures.value) (back_is_weak (cell a c.args.atom.to c.args.atom.from) c.args.atom.strict (plane_fits a))

module _ (c : After-raise) (fit : ¬ Denies (plane_cell c.self.inside.width c.self.inside.weak.items c.self.inside.strict.items c.args.atom.to c.args.atom.from) c.args.atom.strict) where
  abbrev n : ℕ
  n = c.self.inside.size

  abbrev w : ℕ
  w = c.self.inside.width

  abbrev old : ℕ → ℕ → Cell
  old = plane_cell w c.self.inside.weak.items c.self.inside.strict.items

  abbrev weak : List ℕ
  weak = c.raise.new.weak

  abbrev strict : List ℕ
  strict = c.raise.new.strict

  from : c.args.atom.from < n
  from = subst (λ (t : Table). c.args.atom.from < t.points) (sym c.self.view_is) c.requires.from

  to : c.args.atom.to < n
  to = subst (λ (t : Table). c.args.atom.to < t.points) (sym c.self.view_is) c.requires.to

  raised : (i j : ℕ) → i < n → j < n → plane_cell w weak strict i j ≡ stronger (old i j) (way old c.args.atom i j)
  raised i j li lj =
      rw (c.deref_mut.ensures.value, c.deref_mut-2.ensures.value) at (c.raise.ensures.raised i j li lj)

  wide : n ≤ 64 * w
  wide = let e = c.raise.ensures.planes.width in omega arith

  weak_items : (with_items c.self.inside.weak weak).items ≡ weak
  weak_items = let same : length weak ≡ c.self.inside.weak.len = omega (arith, c.deref_mut.ensures.len, c.self.inside.weak.ok.0) in with_items_is c.self.inside.weak weak same

  strict_items : (with_items c.self.inside.strict strict).items ≡ strict
  strict_items = let same : length strict ≡ c.self.inside.strict.len = omega (arith, c.deref_mut-2.ensures.len, c.self.inside.strict.ok.0) in with_items_is c.self.inside.strict strict same

  planes : (reached : List ℕ) → MarksReached n w (plane_cell w weak strict) reached → AreClosedPlanes n w (with_items c.self.inside.weak weak).items (with_items c.self.inside.strict strict).items reached
  unfolding AreClosedPlanes
  planes reached marked = rw (weak_items, strict_items) (record {
    planes = c.raise.ensures.planes;
    closed = raised_closed n old c.args.atom c.self.invariant.closed from to fit (plane_cell w weak strict) raised;
    marked = marked;
  })

  ok : table_of n (plane_cell w (with_items c.self.inside.weak weak).items (with_items c.self.inside.strict strict).items) ≡ table_of c.args.self.now.points (added_cell c.args.self.now c.args.atom)
  ok = (λ k. table_of n (plane_cell w (weak_items k) (strict_items k))) ∙ added_table n old c.args.atom (plane_cell w weak strict) c.args.self.now c.self.view_is from to raised

pub invariant_of-self : goal.invariant_of-self
unfolding AreClosedPlanes
invariant_of-self c =
    let before = goal.at.invariant_of-self c in
    let a = before.After-raise in
    let w = c.self.inside.width in
    let fit = plane_fits before.Else-denies in
    let over = c.copied_row-over.result.words in
    let words : BeginWithRow w c.args.atom.to c.raise.new.weak over = λ k lk.
    c.copied_row-over.ensures.row k lk ∙ ap (λ (plane : List ℕ). get_or plane (c.args.atom.to * w + k) 0) (c.deref.ensures.value ∙ weak_items a fit) in
    planes a fit c.join_row.new.plane
    (raised_marked c.self.inside.size w (wide a fit) (old a fit) c.args.atom (to a fit) c.raise.new.weak c.raise.new.strict (raised a fit) c.self.inside.reached over c.join_row.new.plane words c.self.invariant.marked c.join_row.ensures)

pub returns-clause-ok : goal.returns-clause-ok
returns-clause-ok c = let a = goal.at.returns-clause-ok c in ok a.After-raise (plane_fits a.Else-denies)

pub returns-clause-points : goal.returns-clause-points
returns-clause-points c = let a = goal.at.returns-clause-points c in ap (λ (t : Table). t.points) (ok a.After-raise (plane_fits a.Else-denies))

pub returns-clause-kept : goal.returns-clause-kept
returns-clause-kept c =
    let a = goal.at.returns-clause-kept c in
    subst (λ (u : Table). (t : Timeline) → Keeps u t ↔ (Keeps c.args.self.now t × Satisfies t c.args.atom)) (sym (ok a.After-raise (plane_fits a.Else-denies)))
    (added_kept c.args.self.now c.args.atom (closed a.Else-denies) c.requires.from c.requires.to (fits a.Else-denies))

pub returns-clause-stands : goal.returns-clause-stands
returns-clause-stands c atoms inside stands =
    let a = goal.at.returns-clause-stands c in
    subst (λ (t : Table). Stands t (atoms ++ c.args.atom ∷ [])) (sym (ok a.After-raise (plane_fits a.Else-denies)))
    (added_stands c.args.self.now c.args.atom (closed a.Else-denies) c.requires.from c.requires.to (fits a.Else-denies) atoms inside stands)

pub returns-then-denies-clause-denied : goal.returns-then-denies-clause-denied
returns-then-denies-clause-denied c =
    atom_denied c.args.self.now c.args.atom c.requires.from c.requires.to (subst (λ (x : Cell). Denies x c.args.atom.strict) c.cell.ensures (c.denies.ensures.0 c.if-denies.true))
