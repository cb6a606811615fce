-- Serves the code: pairs of points and of intervals, and how a timeline is to order them.
use Rattle.std.specs.Prelude.{◌≡◌, ◌↔◌, ℕ, ◌*◌, ◌+◌, ◌<◌, ◌≤◌, ⊤, List, [], ◌∷◌, length, take, drop}
use Rattle.std.specs.List.{All, Contains}
use Rattle.net_core.specs.Relations.{Equals, Timeline, ends_of}
use Rattle.evidence_check.specs.declared.pairs.Order.{Order}
use Rattle.evidence_check.specs.declared.pairs.Order.TheVariants.{Before, NoLater, Equal}
use Rattle.evidence_check.specs.declared.pairs.Pair.{Pair}

-- the same pairs stand in two lists
abbrev pub HaveSame : List Pair → List Pair → Type 0
HaveSame xs ys = (pair : Pair) → Contains ys pair ↔ Contains xs pair

-- the first k pairs of a list stand among the first ones of another, and the further ones where they were
pub record AreMoved (old new : List Pair) (k kept : ℕ) : Type 0 where
  pub size : length new ≡ length old
  pub few : kept ≤ k
  pub same : HaveSame (take k old) (take kept new)
  pub to_come : drop k new ≡ drop k old

-- all points of a pair are below n
abbrev pub IsPairWithin : Order → ℕ → Pair → Type 0
IsPairWithin Before n pair = (pair.first < n) × (pair.second < n)
IsPairWithin NoLater n pair = (pair.first < n) × (pair.second < n)
IsPairWithin Equal n pair = (2 * pair.first + 1 < n) × (2 * pair.second + 1 < n)

-- the pair is in this order
abbrev pub IsKept : Order → Timeline → Pair → Type 0
IsKept Before t pair = t pair.first < t pair.second
IsKept NoLater t pair = t pair.first ≤ t pair.second
IsKept Equal t pair = Equals (ends_of t pair.first) (ends_of t pair.second)

-- the first number of the first pair
abbrev pub first_of : List Pair → ℕ
first_of [] = 0
first_of (pair ∷ pairs) = pair.first

-- all pairs have one first number
abbrev pub IsRun : List Pair → Type 0
IsRun pairs = All (λ pair. pair.first ≡ first_of pairs) pairs

-- the lengths of runs: of the first pairs, of those after them, and so on
abbrev pub AreRuns : List ℕ → List Pair → Type 0
AreRuns [] pairs = ⊤
AreRuns (len ∷ lens) pairs = (len ≤ length pairs) × IsRun (take len pairs) × AreRuns lens (drop len pairs)
