-- What is found first.
use Rattle.std.specs.Prelude.{ℕ, ◌<◌, Option, Some, None}

-- the least number below n of which something does not hold, or none
abbrev pub IsFirst : ℕ → (ℕ → Type 0) → Option ℕ → Type 0
IsFirst n Holds None = (i : ℕ) → i < n → Holds i
IsFirst n Holds (Some i) = (i < n) × (Holds i → ⊥) × ((j : ℕ) → j < i → Holds j)

-- the least pair of numbers below n, by the first and then by the second
abbrev pub IsFirstPair : ℕ → (ℕ → ℕ → Type 0) → Option (ℕ × ℕ) → Type 0
IsFirstPair n Holds None = (p q : ℕ) → p < n → q < n → Holds p q
IsFirstPair n Holds (Some pair) = (pair.0 < n) × IsFirst n (Holds pair.0) (Some pair.1) × ((p q : ℕ) → p < pair.0 → q < n → Holds p q)
