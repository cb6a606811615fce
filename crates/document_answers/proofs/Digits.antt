-- Numbers written from the right, one before the other.
use Rattle.std.proofs.Common.{◌≡◌, ℕ, ◌-◌, ◌<◌, ◌≤◌, List, ◌∷◌, length, take, drop, replicate, arith, drop-cons}
use Rattle.std.proofs.lemmas.List.{get_or-take, get_or-replicate}
use Rattle.std.proofs.lemmas.Grind.{common_steps}

-- up to `at` the list is still the y that it was filled with, so one stands before the part after it
pub filled_before : (l : List ℕ) (y at n : ℕ) → 0 < at → at ≤ n → at ≤ length l → take at l ≡ take at (replicate n y) → drop (at - 1) l ≡ y ∷ drop at l
filled_before l y at n some h fits e = grind (arith, common_steps, get_or-take at l (at - 1) y, get_or-take at (replicate n y) (at - 1) y, get_or-replicate, drop-cons)
