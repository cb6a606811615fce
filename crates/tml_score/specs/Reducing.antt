-- Serves the code: links that are taken one after another.
use Rattle.std.specs.Prelude.{◌≡◌, ℕ, ◌<◌, ◌≤◌, Bool, true, false, List, length}
use Rattle.net_core.specs.Clashes.{Others}
use Rattle.net_core.specs.Fits.{Fits, FitsWith}
use Rattle.net_core.specs.Nets.{PlainNet}
use Rattle.net_core.specs.Relations.{Timeline}
use Rattle.net_core.specs.Walks.{Kept}
use Rattle.tml_score.specs.Reduced.{Beside, CanFailWith, FollowsFrom}

-- a link follows from the others that are kept, or it can fail with them
abbrev pub DecidesLink : PlainNet → List Bool → ℕ → Bool → Type 0
DecidesLink net keep k true = FollowsFrom net (Others (Kept keep) k) k
DecidesLink net keep k false = CanFailWith net (Others (Kept keep) k) k

-- The links before link n are taken, and those from it on are kept. Those that are kept say the same as all.
pub record AreDecided (net : PlainNet) (n : ℕ) (keep : List Bool) : Type 0 where
  pub size : length keep ≡ length net.links
  pub later : (k : ℕ) → n ≤ k → k < length net.links → Kept keep k
  pub stay : (k : ℕ) → k < n → Kept keep k → CanFailWith net (Beside (Kept keep) k) k
  pub left_out : (k : ℕ) → k < n → (Kept keep k → ⊥) → FollowsFrom net (Beside (Kept keep) k) k
  pub same : (t : Timeline) → FitsWith net (Kept keep) t → Fits net t
