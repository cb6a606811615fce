-- It is decided whether a relation holds of a timeline, and whether two points follow their numbers.
use Rattle.std.proofs.Common.{ℕ, Bool, true, false, ℤ, ◌<ℤ◌, int_lt, List, [], ◌∷◌, Option, Some, None, arith}
use Rattle.std.specs.List.{AllByRecursion}
use Rattle.std.proofs.lemmas.Int.{ints}
use lib.IntN.{ℤ_discrete}
use mathlib.Core.Logic.Dec
use native.Mathlib.Decide.{dec_le, dec_lt}
use Rattle.named.proofs.Deciding.{by_test, implied}
use Rattle.net_core.specs.Atoms.{IsInOrder, Satisfies, atoms_of}
use Rattle.net_core.specs.Fits.{FollowsNumbers}
use Rattle.net_core.specs.Relations.{Relates, Timeline}
use Rattle.net_core.specs.declared.atom.Atom.{Atom}
use Rattle.net_core.specs.declared.rels.Rel.{Rel}
use Rattle.net_core.proofs.AtomLaws.{atoms_say_the_relation}

-- whether two numbers are in order
in_order : (strict : Bool) (m n : ℕ) → Dec (IsInOrder strict m n)
in_order true m n = dec_lt m n
in_order false m n = dec_le m n

-- whether all orders of a list hold
all_satisfied : (t : Timeline) (atoms : List Atom) → Dec (AllByRecursion (Satisfies t) atoms)
all_satisfied t [] = yes tt
all_satisfied t (atom ∷ atoms) = Dec.and (in_order atom.strict (t atom.from) (t atom.to)) (all_satisfied t atoms)

pub relates : (t : Timeline) (r : Rel) (a b : ℕ) → Dec (Relates t a r b)
relates t r a b = let says = atoms_say_the_relation t r a b in Dec.of_iff (says.1, says.0) (all_satisfied t (atoms_of a r b))

-- whether an integer is below another one
less_int : (x y : ℤ) → Dec (x <ℤ y)
less_int x y = by_test (int_lt x y) (λ e. grind (arith, ints, e), λ less. grind (arith, ints, less))

pub follows_numbers : (u l : Option ℤ) (m n : ℕ) → Dec (FollowsNumbers u l m n)
follows_numbers (Some u) (Some l) m n = Dec.and (implied (less_int u l) (dec_lt m n)) (implied (ℤ_discrete u l) (dec_le m n))
follows_numbers (Some u) None m n = yes tt
follows_numbers None l m n = yes tt
