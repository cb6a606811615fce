use Rattle.std.proofs.Common.{◌≡◌, ℕ, Err, Ok, List, length, get_or, subst, sym, arith}
use Rattle.std.proofs.lemmas.Option.{get_or_from_slice_get}
use Rattle.std.proofs.lemmas.Result.{err_from_is_err_and}
use Rattle.net_core.specs.Atoms.{IsInRange, Satisfies, atoms_in}
use Rattle.net_core.specs.Relations.{Timeline}
use Rattle.net_core.specs.declared.atom.Atom.{Atom}
use Rattle.net_core.proofs.StepLaws.{one_of_all}
use Rattle.order_closure.specs.Tables.{SatisfiesAll}
use Rattle.net_orders.specs.Steps.{AddsToTable}
use Rattle.net_orders.proofs.LinkAtoms.{no_atom}
use Rattle.net_orders.proofs.Steps.{Below, adds_more, all_below, answer_same, atom_same, clashes_more}
use Rattle.net_orders.proofs.links.add_atoms.Goals as goal
use Rattle.net_orders.proofs.links.add_atoms.Goals.{After-nth_order}

-- an atom of a list is true
abbrev Atoms : List Atom → ℕ → Timeline → Type 0
Atoms atoms k t = Satisfies t (get_or atoms k no_atom)

-- the atom that is added is that of its number
added : (c : After-nth_order) → c.nth_order.result ≡ get_or (atoms_in c.args.atoms) c.loop-number.number no_atom
added c = sym (get_or_from_slice_get (atoms_in c.args.atoms) c.loop-number.number c.nth_order.result no_atom c.nth_order.ensures)

pub insert-requires : goal.insert-requires
insert-requires c =
    let Fits = IsInRange c.args.table.now.points in
    let atoms = atoms_in c.args.atoms in
    let both = one_of_all Fits atoms c.loop-number.number c.nth_order.result c.requires c.nth_order.ensures in
    let size = c.loop-number.invariant.so_far.0 in
    record { from = omega (arith, both.0, size); to = omega (arith, both.1, size) }

pub returns-in_err-insert : goal.returns-in_err-insert
returns-in_err-insert c =
    let atoms = atoms_in c.args.atoms in
    let same = added (goal.at.returns-in_err-insert c).After-nth_order in
    let fault = c.in_err-insert.field-0.0 in
    let p = err_from_is_err_and c.from_residual.result c.from_residual.ensures.1 in
    rw p.1 (answer_same (Below (Atoms atoms) (length atoms)) (SatisfiesAll atoms) (all_below (λ atom t. Satisfies t atom) atoms no_atom)
    c.args.table.now c.insert.new.table (Err fault)
    (clashes_more (Atoms atoms) c.loop-number.number (length atoms) c.args.table.now c.loop-number.table c.insert.new.table c.insert.new.table fault
    (omega arith) c.loop-number.invariant.so_far (atom_same _ _ c.loop-number.table c.insert.new.table (Err fault) same c.in_err-insert.ensures)))

pub loop-number-preserved : goal.loop-number-preserved
loop-number-preserved c =
    let same = added (goal.at.loop-number-preserved c).After-nth_order in
    record {
      end = c.loop-number.invariant.end;
      so_far = adds_more (Atoms (atoms_in c.args.atoms)) c.loop-number.number c.args.table.now c.loop-number.table c.insert.new.table c.loop-number.invariant.so_far
          (atom_same _ _ c.loop-number.table c.insert.new.table (Ok tt) same c.in_ok-insert.ensures);
    }

pub returns : goal.returns
returns c =
    let atoms = atoms_in c.args.atoms in
    let end : c.loop-number.number ≡ length atoms = omega arith in
    answer_same (Below (Atoms atoms) (length atoms)) (SatisfiesAll atoms) (all_below (λ atom t. Satisfies t atom) atoms no_atom)
    c.args.table.now c.loop-number.table (Ok tt)
    (subst (λ (n : ℕ). AddsToTable (Below (Atoms atoms) n) c.args.table.now c.loop-number.table) end c.loop-number.invariant.so_far)
