-- Serves the code: items by one of their points.
use Rattle.std.specs.Prelude.{◌≡◌, ◌↔◌, ℕ, ◌+◌, ◌<◌, ◌≤◌, slice_index, List, length, slice_index_or}
use Rattle.std.specs.List.Sorted.{IsNonDecreasingBy}

-- which point of an item is looked at, how many points there are, and the items
pub record PlainIndex (X P : Type 0) : Type 0 where
  pub by : P
  pub points : ℕ
  pub items : List X

-- the items with the lowest point come first
abbrev pub AreSorted : {X : Type 0} → (X → ℕ) → List X → Type 0
AreSorted point_of items = IsNonDecreasingBy point_of items

-- the items of a point are those from one number up to another
pub record AreNumbersOf {X : Type 0} (point_of : X → ℕ) (items : List X) (point first after : ℕ) : Type 0 where
  pub rising : first ≤ after
  pub within : after ≤ length items
  pub exact : (k : ℕ) (d : X) → k < length items → ((first ≤ k) × (k < after)) ↔ (point_of (slice_index_or items k d) ≡ point)

-- The items of each point lie between its start and the next one.
pub record AreStarts {X : Type 0} (point_of : X → ℕ) (points : ℕ) (items : List X) (starts : List ℕ) : Type 0 where
  pub size : length starts ≡ points + 1
  pub numbers : (p : ℕ) → p < points → AreNumbersOf point_of items p (slice_index starts p) (slice_index starts (p + 1))
