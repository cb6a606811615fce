-- Serves the code: ranks of the points of a table.
use Rattle.std.specs.Prelude.{◌≡◌, ℕ, zero, suc, ◌<◌, ◌≤◌, max, List, length, slice_index, slice_index_or}
use Rattle.std.specs.List.{All, Contains}
use Rattle.order_closure.specs.Counting.{count, is_strict}
use Rattle.order_closure.specs.declared.cell.Cell.{Cell}
use Rattle.order_closure.specs.declared.cell.Cell.TheVariants.{Strict}
use Rattle.timeline.specs.declared.ranking.Counted.{Counted}

-- a rank is the least number above the ranks of the points before p
pub record IsRankOf (n : ℕ) (cell : ℕ → ℕ → Cell) (ranks : List ℕ) (p rank : ℕ) : Type 0 where
  pub above : (r : ℕ) → r < n → cell r p ≡ Strict → slice_index ranks r < rank
  pub least : (m : ℕ) → ((r : ℕ) → r < n → cell r p ≡ Strict → slice_index ranks r < m) → rank ≤ m

-- each point has its rank
abbrev pub AreRanksOfCells : ℕ → (ℕ → ℕ → Cell) → List ℕ → Type 0
AreRanksOfCells n cell ranks = (p : ℕ) → p < n → IsRankOf n cell ranks p (slice_index ranks p)

-- a number that is raised to at least another one where a bit is set
abbrev pub raised : ℕ → ℕ → ℕ → ℕ
raised zero least old = old
raised (suc bit) least old = max old least

-- how many points are after point p
abbrev pub after_count : ℕ → (ℕ → ℕ → Cell) → ℕ → ℕ
after_count n cell p = count (λ q. is_strict (cell p q)) n

-- a point, and how many points are after it
abbrev pub counted_at : ℕ → (ℕ → ℕ → Cell) → ℕ → Counted
counted_at n cell p = record { after = after_count n cell p; point = p }

-- a point of the table, with how many points are after it
abbrev pub IsCounted : ℕ → (ℕ → ℕ → Cell) → Counted → Type 0
IsCounted n cell turn = (turn.point < n) × (turn.after ≡ after_count n cell turn.point)

-- each point stands in the list, and nothing else
pub record AreCounted (n : ℕ) (cell : ℕ → ℕ → Cell) (turns : List Counted) : Type 0 where
  pub right : All (IsCounted n cell) turns
  pub whole : (p : ℕ) → p < n → Contains turns (counted_at n cell p)

-- those with the most points after them come first
abbrev pub AreInTurn : List Counted → Type 0
AreInTurn turns = (i j : ℕ) (d : Counted) → i ≤ j → j < length turns → (slice_index_or turns j d).after ≤ (slice_index_or turns i d).after
