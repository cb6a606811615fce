use Rattle.std.proofs.Common.{◌≡◌, ℕ, ◌+◌, ◌*◌, ◌<◌, ◌≤◌, get_or}
use Rattle.std.specs.Prelude.{◌==◌, if◌then◌else◌}
use Rattle.order_closure.specs.Planes.{plane_bit}
use Rattle.order_closure.proofs.planes.reflect.Given as goal

-- the rows so far are done, in the others nothing is set
abbrev pub invariant-loop-i : goal.invariant-loop-i
invariant-loop-i l = record {
  done : (a b : ℕ) → a < l.i → b < 64 * l.width → plane_bit l.width l.plane a b ≡ (if a == b then 1 else 0);
  others : (a k : ℕ) → l.i ≤ a → k < l.width → get_or l.plane (a * l.width + k) 0 ≡ 0;
}
