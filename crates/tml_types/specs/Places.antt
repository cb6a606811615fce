-- The places of typed tags.
use Rattle.std.specs.Prelude.{ℕ, ◌+◌, ◌<◌, ◌≤◌, ◌^◌, List, [], ◌∷◌, length, map, ⊤}
use Rattle.std.specs.List.{All}
use Rattle.tml_types.specs.Content.{PlainTyped}

abbrev pub place_of : PlainTyped → ℕ
place_of t = t.place

-- numbers that rise strictly, none below the first number
abbrev pub Rises : ℕ → List ℕ → Type 0
Rises low [] = ⊤
Rises low (n ∷ ns) = (low ≤ n) × Rises (n + 1) ns

abbrev pub IsPlaceSmall : PlainTyped → Type 0
IsPlaceSmall t = t.place < 2 ^ 32

-- the places of typed tags rise strictly and are below 2^32, and so is the number of the tags
pub record HaveRisingPlaces (typed : List PlainTyped) : Type 0 where
  pub rising : Rises 0 (map place_of typed)
  pub small : All IsPlaceSmall typed
  pub few : length typed < 2 ^ 32
