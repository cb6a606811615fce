use Rattle.std.proofs.Common.{◌≡◌, ◌<◌, ◌≤◌, ℕ, length, get_or}
use Rattle.net_core.specs.Atoms.{Satisfies}
use Rattle.net_orders.specs.Raising.{RisesUntil}
use Rattle.net_orders.proofs.LinkAtoms.{no_atom}
use Rattle.net_orders.proofs.Rising.{From}
use Rattle.net_orders.proofs.raising.raise_all.Given as goal

-- the orders that are left are the first ones, and ranks rose by those after them
abbrev pub invariant-loop-rest : goal.invariant-loop-rest
invariant-loop-rest l = record {
  within : length l.rest ≤ length l.atoms;
  left : (k : ℕ) → k < length l.rest → get_or l.rest k no_atom ≡ get_or l.atoms k no_atom;
  so_far : RisesUntil (From (λ k t. Satisfies t (get_or l.atoms k no_atom)) (length l.atoms) (length l.rest)) l.fn.ranks l.ranks;
}

-- one order fewer is left
abbrev pub decreases-loop-rest : goal.decreases-loop-rest
decreases-loop-rest l = length l.rest
