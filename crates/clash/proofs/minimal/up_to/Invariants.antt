use Rattle.std.proofs.Common.{◌≡◌, ◌↔◌, ℕ, ◌<◌, length}
use Rattle.net_core.specs.Walks.{Kept}
use Rattle.clash.specs.Minimal.{UpTo}
use Rattle.clash.proofs.minimal.up_to.Given as goal

-- a mark stands for each link so far
abbrev pub invariant-loop-k : goal.invariant-loop-k
invariant-loop-k l = record {
  end : l.k-end ≡ length l.net.links;
  size : length l.keep.items ≡ l.k;
  kept : (j : ℕ) → j < l.k → Kept l.keep.items j ↔ UpTo l.link j;
}
