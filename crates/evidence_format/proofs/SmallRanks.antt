-- Small ranks can stand in a text.
use Rattle.std.proofs.Common.{◌≡◌, ℕ, suc, ◌<◌, ◌≤◌, List, [], ◌∷◌, length, get_or, arith}
use Rattle.std.specs.List.{AllByRecursion}
use Rattle.std.proofs.lemmas.List.Elements.{All-from_recursion}
use Rattle.net_core.specs.Limits.{max_points}
use Rattle.net_core.specs.Ranks.{pairs_of}
use Rattle.net_core.proofs.RankLaws.{few_pairs}
use Rattle.evidence_format.specs.Evidence.{AreRanks}
use Rattle.line_texts.specs.Numbers.{IsPair}

-- small ranks are pairs of numbers that a text can have
pairs_fit : (m : ℕ) (ranks : List ℕ) → m ≤ max_points → ((p : ℕ) → p < length ranks → get_or ranks p 0 < m) → AllByRecursion IsPair (pairs_of ranks)
pairs_fit m [] few small = tt
pairs_fit m (start ∷ []) few small = tt
pairs_fit m (start ∷ finish ∷ ranks) few small =
    ((omega (arith, small 0 (omega arith)), omega (arith, small 1 (omega arith))), pairs_fit m ranks few (λ p less. small (suc (suc p)) (omega arith)))

-- ranks of no more points than a net can have, each below their number
pub small_ranks : (m : ℕ) (ranks : List ℕ) → m ≤ max_points → length ranks ≡ m → ((p : ℕ) → p < m → get_or ranks p 0 < m) → AreRanks (pairs_of ranks)
small_ranks m ranks few size small =
    let each = pairs_fit m ranks few (λ p less. small p (omega (arith, less, size))) in
    (All-from_recursion IsPair (pairs_of ranks) each, omega (arith, few_pairs ranks, size))
