-- Serves the code: the first places at which rules are broken.
use Rattle.std.specs.Prelude.{◌≡◌, ◌<◌, ◌≤◌, ◌^◌, ℕ, List, ◌∷◌, ◌++◌, Option, Some, None}
use Rattle.tml_types.specs.Content.{PlainTyped}
use Rattle.tml_refs.specs.declared.resolving.RefFault.{RefFault}
use Rattle.tml_refs.specs.declared.resolving.RefFault.TheVariants as faults

-- past each place
abbrev pub nowhere : ℕ
nowhere = 2 ^ 32

-- a place that may be absent, as a bound
abbrev pub bound : Option ℕ → ℕ
bound None = nowhere
bound (Some place) = place

-- a tag at this place breaks a rule
pub record StandsAt (breaks : List PlainTyped → PlainTyped → Type 0) (all : List PlainTyped) (place : ℕ) : Type 0 where
  pub before : List PlainTyped
  pub tag : PlainTyped
  pub after : List PlainTyped
  pub whole : all ≡ before ++ tag ∷ after
  pub place_is : tag.place ≡ place
  pub broken : breaks before tag

-- no tag before this place breaks a rule, and one at this place does, unless it is nowhere
pub record IsFirstPlace (breaks : List PlainTyped → PlainTyped → Type 0) (all : List PlainTyped) (place : ℕ) : Type 0 where
  pub none : (before after : List PlainTyped) (tag : PlainTyped) → all ≡ before ++ tag ∷ after → tag.place < place → breaks before tag → ⊥
  pub here : place < nowhere → StandsAt breaks all place

-- the earliest of the first places of four rules, and at one place the first of these rules
abbrev pub IsEarliest : ℕ → ℕ → ℕ → ℕ → Option RefFault → Type 0
IsEarliest repeat unknown intervals links None = (nowhere ≤ repeat) × (nowhere ≤ unknown) × (nowhere ≤ intervals) × (nowhere ≤ links)
IsEarliest repeat unknown intervals links (Some (faults.DuplicateId place)) =
    (place ≡ repeat) × (place < nowhere) × (place ≤ unknown) × (place ≤ intervals) × (place ≤ links)
IsEarliest repeat unknown intervals links (Some (faults.UnknownReference place)) =
    (place ≡ unknown) × (place < nowhere) × (place < repeat) × (place ≤ intervals) × (place ≤ links)
IsEarliest repeat unknown intervals links (Some (faults.TooManyIntervals place)) =
    (place ≡ intervals) × (place < nowhere) × (place < repeat) × (place < unknown) × (place ≤ links)
IsEarliest repeat unknown intervals links (Some (faults.TooManyLinks place)) =
    (place ≡ links) × (place < nowhere) × (place < repeat) × (place < unknown) × (place < intervals)
IsEarliest repeat unknown intervals links (Some faults.Memory) = ⊥
