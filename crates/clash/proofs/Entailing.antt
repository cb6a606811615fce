-- What the closure of a net says of orders and relations.
use Rattle.std.proofs.Common.{◌↔◌, ℕ, ◌<◌, ◌≤◌, Bool, true, false, List, [], ◌∷◌, sym, subst, arith}
use Rattle.std.specs.List.{All, AllByRecursion}
use Rattle.std.proofs.lemmas.List.Elements.{All-from_recursion, recursion_from_All}
use Rattle.net_core.specs.Atoms.{IsInRange, Satisfies, atoms_of}
use Rattle.net_core.specs.Entailment.{Always, AlwaysHolds, Follows}
use Rattle.net_core.specs.Fits.{Fits}
use Rattle.net_core.specs.Nets.{PlainNet, intervals, points}
use Rattle.net_core.specs.Relations.{Timeline}
use Rattle.net_core.specs.declared.atom.Atom.{Atom}
use Rattle.net_core.specs.declared.rels.Rel.{Rel}
use Rattle.net_core.proofs.AtomLaws.{atoms_in_range, atoms_say_the_relation}
use Rattle.order_closure.specs.Cells.{order, strength}
use Rattle.order_closure.specs.Tables.{GivesAtom, Table, cell_at}
use Rattle.order_closure.specs.declared.cell.Cell.{Cell}
use Rattle.order_closure.proofs.Central.{at_least_weak, order_says}
use Rattle.clash.specs.Closures.{IsClosureOf}

module _ (net : PlainNet) (table : Table) (closure : IsClosureOf net table) where
  -- what a cell says always holds
  pub given_holds : (atom : Atom) → IsInRange (points net) atom → GivesAtom table atom → AlwaysHolds net atom
  given_holds atom range gives t fits =
      order_says (cell_at table atom.from atom.to) atom.strict (t atom.from) (t atom.to) gives
      ((closure.keeps t).1 fits atom.from atom.to (omega (arith, range.0, closure.size)) (omega (arith, range.1, closure.size)))

  -- what always holds a cell says
  pub held_given : (atom : Atom) → IsInRange (points net) atom → AlwaysHolds net atom → GivesAtom table atom
  held_given atom range always = by atom.strict always
    where
      by : (strict : Bool) → Always net strict atom.from atom.to → strength (order strict) ≤ strength (cell_at table atom.from atom.to)
      by true holds = subst (λ (x : Cell). 2 ≤ strength x) (sym ((closure.strict atom.from atom.to range.0 range.1).1 holds)) (omega arith)
      by false holds = at_least_weak (cell_at table atom.from atom.to) (Always net true atom.from atom.to) (Always net false atom.from atom.to) (closure.strict atom.from atom.to range.0 range.1) (closure.weak atom.from atom.to range.0 range.1) holds

  -- orders that the table gives are kept by every timeline that fits
  kept : (t : Timeline) → Fits net t → (atoms : List Atom) → AllByRecursion (IsInRange (points net)) atoms → AllByRecursion (GivesAtom table) atoms → AllByRecursion (Satisfies t) atoms
  kept t fits [] range gives = tt
  kept t fits (atom ∷ atoms) range gives = (given_holds atom range.0 gives.0 t fits, kept t fits atoms range.1 gives.1)

  -- orders that every timeline that fits keeps the table gives
  given : (atoms : List Atom) → AllByRecursion (IsInRange (points net)) atoms → ((t : Timeline) → Fits net t → AllByRecursion (Satisfies t) atoms) → AllByRecursion (GivesAtom table) atoms
  given [] range always = tt
  given (atom ∷ atoms) range always = (held_given atom range.0 (λ t fits. (always t fits).0), given atoms range.1 (λ t fits. (always t fits).1))

  -- the table gives all orders of a relation exactly where it follows
  pub gives_what_follows : (a : ℕ) (r : Rel) (b : ℕ) → a < intervals net → b < intervals net → All (GivesAtom table) (atoms_of a r b) ↔ Follows net a r b
  gives_what_follows a r b la lb =
      let range = atoms_in_range (intervals net) r a b la lb in (
        λ gives t fits. (atoms_say_the_relation t r a b).1 (kept t fits (atoms_of a r b) range (recursion_from_All (GivesAtom table) (atoms_of a r b) gives)),
        λ follows. All-from_recursion (GivesAtom table) (atoms_of a r b) (given (atoms_of a r b) range (λ t fits. (atoms_say_the_relation t r a b).0 (follows t fits))),
      )
