-- Ranks: two for each interval, of its start and of its end.
use Rattle.std.specs.Prelude.{ℕ, List, [], ◌∷◌, ⊤, slice_index}
use Rattle.net_core.specs.Relations.{Timeline}

-- there are two for each interval
abbrev pub AreEven : List ℕ → Type 0
AreEven [] = ⊤
AreEven (start ∷ []) = ⊥
AreEven (start ∷ finish ∷ ranks) = AreEven ranks

-- the ranks of each interval
abbrev pub pairs_of : List ℕ → List (ℕ × ℕ)
pairs_of [] = []
pairs_of (start ∷ []) = []
pairs_of (start ∷ finish ∷ ranks) = (start, finish) ∷ pairs_of ranks

-- the ranks of intervals, one after another
abbrev pub ranks_of : List (ℕ × ℕ) → List ℕ
ranks_of [] = []
ranks_of (pair ∷ pairs) = pair.0 ∷ pair.1 ∷ ranks_of pairs

-- the timeline that ranks are: each point is at its rank
abbrev pub timeline_of : List ℕ → Timeline
timeline_of ranks = λ p. slice_index ranks p
