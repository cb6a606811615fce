use Rattle.std.proofs.Common.{◌≡◌, ◌↔◌, take}
use Rattle.std.specs.List.{AllByRecursion}
use Rattle.net_core.specs.Atoms.{Satisfies, atoms_in, atoms_of}
use Rattle.net_core.specs.Relations.{Timeline}
use Rattle.order_closure.specs.Tables.{Keeps}
use Rattle.tml_possible.proofs.timelines.raise.Given as goal

-- the timelines that keep the table are those that kept it and of which the orders so far are true
abbrev pub invariant-loop-k : goal.invariant-loop-k
invariant-loop-k l = record {
  orders : atoms_in l.atoms ≡ atoms_of l.a l.fn.rel l.b;
  points : l.table.points ≡ l.initial.table.points;
  kept : (t : Timeline) → Keeps l.table t ↔ (Keeps l.initial.table t × AllByRecursion (Satisfies t) (take l.k (atoms_of l.a l.fn.rel l.b)));
}
