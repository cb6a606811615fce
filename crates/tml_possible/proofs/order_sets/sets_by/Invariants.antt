use Rattle.std.proofs.Common.{◌≡◌, ◌*◌, ◌<◌, ℕ, length}
use Rattle.std.specs.Prelude.{slice_index}
use Rattle.tml_possible.specs.OrderSets.{AreNotDenied}
use Rattle.tml_possible.proofs.order_sets.sets_by.Given as goal

-- the sets so far
abbrev pub invariant-loop-orders : goal.invariant-loop-orders
invariant-loop-orders l = (length l.sets ≡ 256) × ((x : ℕ) → x < l.orders → AreNotDenied (l.first * x) (slice_index l.sets x))
