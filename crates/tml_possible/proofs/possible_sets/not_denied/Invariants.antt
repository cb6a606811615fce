use Rattle.std.proofs.Common.{◌≡◌, ◌↔◌, ℕ, ◌<◌}
use Rattle.std.specs.Prelude.{bit_and, slice_index}
use Rattle.std.specs.Int.{bit_at}
use Rattle.tml_possible.specs.declared.possible_sets.TheConstants.{FALSE_ORDERS}
use Rattle.tml_possible.proofs.possible_sets.not_denied.Given as goal

-- the bits below k are set where no order is false
abbrev pub invariant-loop-k : goal.invariant-loop-k
invariant-loop-k l = record {
  items : l.orders-items ≡ FALSE_ORDERS;
  set : (j : ℕ) → (bit_at l.bits j ≡ 1) ↔ ((j < l.k) × (bit_and l.given (slice_index FALSE_ORDERS j) ≡ 0));
}
