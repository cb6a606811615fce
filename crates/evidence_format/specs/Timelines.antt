-- Serves the code: timelines that stand end to end, by where each of them ends.
use Rattle.std.specs.Prelude.{◌≡◌, ℕ, ◌-◌, ◌≤◌, List, [], ◌∷◌, length, take, drop}
use Rattle.net_core.specs.Ranks.{AreEven}

-- the ranks up to the first end, those from there to the next one, and so on
abbrev pub parts_of : ℕ → List ℕ → List ℕ → List (List ℕ)
parts_of start [] ranks = []
parts_of start (end ∷ ends) ranks = take (end - start) (drop start ranks) ∷ parts_of end ends ranks

-- each end is no less than the one before, the last one is where the ranks end, and each part is even
abbrev pub AreParts : ℕ → List ℕ → List ℕ → Type 0
AreParts start [] ranks = start ≡ length ranks
AreParts start (end ∷ ends) ranks = (start ≤ end) × (end ≤ length ranks) × AreEven (take (end - start) (drop start ranks)) × AreParts end ends ranks
