-- Serves the code: a relation over whole seconds by the orders of points that it is.
use Rattle.std.specs.Prelude.{ℤ, ◌<ℤ◌, ◌≤ℤ◌, Bool, true, false, List}
use Rattle.std.specs.List.{AllByRecursion}
use Rattle.net_core.specs.Atoms.{atoms_of}
use Rattle.net_core.specs.declared.atom.Atom.{Atom}
use Rattle.net_core.specs.declared.net.NetLink.{NetLink}
use Rattle.seconds_core.specs.Placed.{second_at}

-- one second is before another, or where the order is not strict they may be the same
abbrev pub AreSecondsInOrder : Bool → ℤ → ℤ → Type 0
AreSecondsInOrder true m n = m <ℤ n
AreSecondsInOrder false m n = m ≤ℤ n

abbrev pub KeepsOrder : List ℤ → Atom → Type 0
KeepsOrder seconds atom = AreSecondsInOrder atom.strict (second_at seconds atom.from) (second_at seconds atom.to)

-- each order that the relation of a link is, is kept
abbrev pub KeepsOrdersInSeconds : List ℤ → NetLink → Type 0
KeepsOrdersInSeconds seconds link = AllByRecursion (KeepsOrder seconds) (atoms_of link.a link.rel link.b)
