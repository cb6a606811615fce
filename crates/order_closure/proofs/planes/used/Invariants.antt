use Rattle.std.proofs.Common.{◌≡◌, ◌⊎◌, ℕ, ◌<◌, ◌≤◌, get_or}
use Rattle.order_closure.proofs.planes.used.Given as goal

-- of the words so far, those outside have no bits
abbrev pub invariant-loop-k : goal.invariant-loop-k
invariant-loop-k l = record {
  order : l.start ≤ l.end;
  within : l.end ≤ l.k;
  clear : (p : ℕ) → p < l.k → (p < l.start) ⊎ (l.end ≤ p) → get_or l.words p 0 ≡ 0;
}
