use Rattle.std.proofs.Common.{◌≡◌, ◌↔◌, ℕ, ◌+◌, length, take}
use Rattle.std.specs.List.{All}
use Rattle.net_core.specs.Atoms.{IsInRange, Satisfies, atoms_in}
use Rattle.net_core.specs.Relations.{Timeline}
use Rattle.evidence_check.specs.Orders.{AreAtMost, AreOrdersWithin, KeepsOrders}
use Rattle.evidence_check.proofs.orders.Orders.push_atoms.Given as goal

-- the orders so far are there
abbrev pub invariant-loop-k : goal.invariant-loop-k
invariant-loop-k l = record {
  end : l.k-end ≡ length (atoms_in l.atoms);
  keeps : (t : Timeline) → KeepsOrders t l.self ↔ (KeepsOrders t l.fn.self × All (Satisfies t) (take l.k (atoms_in l.atoms)));
  within : (n : ℕ) → AreOrdersWithin n l.fn.self → All (IsInRange n) (atoms_in l.atoms) → AreOrdersWithin n l.self;
  few : (n : ℕ) → AreAtMost n l.fn.self → AreAtMost (n + l.k) l.self;
}
