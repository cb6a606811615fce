-- Sums of ranks that are not past the highest.
use Rattle.std.proofs.Common.{◌≤◌, ◌*◌, ℕ, List, length, arith}
use Rattle.std.specs.List.{All}
use Rattle.std.proofs.lemmas.List.Elements.{All-from_get_or}
use Rattle.std.proofs.lemmas.List.Sums.{sum_by-le}
use Rattle.net_core.specs.Limits.{max_points}
use Rattle.net_core.proofs.RankLaws.{sum_of}
use Rattle.net_orders.specs.Raising.{AreRanksWithin}

-- ranks that are not past the highest have a bounded sum
pub sum_bounded : (ranks : List ℕ) → AreRanksWithin ranks → sum_of ranks ≤ length ranks * max_points
sum_bounded ranks within =
    let small : All (λ (rank : ℕ). rank ≤ max_points) ranks = All-from_get_or (λ (rank : ℕ). rank ≤ max_points) ranks 0 (λ p lt. within p) in
    omega (arith, sum_by-le (λ (rank : ℕ). rank) max_points ranks small)
