-- Serves the code: sets of base relations by the orders of two intervals.
use Rattle.std.specs.Prelude.{◌≡◌, ◌↔◌, ℕ, ◌*◌, ◌<◌, List, bit_and, slice_index}
use Rattle.std.specs.Int.{bit_at}
use Rattle.tml_possible.specs.declared.order_sets.OrderSets.{OrderSets}
use Rattle.tml_possible.specs.declared.possible_sets.TheConstants.{FALSE_ORDERS}

-- the bits of the base relations of which none of some orders is false
abbrev pub AreNotDenied : ℕ → ℕ → Type 0
AreNotDenied given bits = (k : ℕ) → (bit_at bits k ≡ 1) ↔ ((k < 13) × (bit_and given (slice_index FALSE_ORDERS k) ≡ 0))

-- these bits for each eight orders, the first of which has a bit
abbrev pub AreSetsBy : ℕ → List ℕ → Type 0
AreSetsBy first sets = (orders : ℕ) → orders < 256 → AreNotDenied (first * orders) (slice_index sets orders)

-- for the orders from the first interval to the second, and for those from the second to the first
abbrev pub AreOrderSets : OrderSets → Type 0
AreOrderSets sets = AreSetsBy 1 sets.forth × AreSetsBy 256 sets.back
