-- Serves the code: rounds of relaxation. Which points are due, and how often each is taken, only the number of rounds rests on.
use Rattle.std.specs.Prelude.{◌≡◌, ℕ, ◌<◌, Bool, true, false, List, length, MatchOption, Option}
use Rattle.seconds_search.specs.declared.edges.Edge.{Edge}
use Rattle.seconds_search.specs.declared.rounds.Rounds.{Rounds}
use Rattle.seconds_search.specs.Leaving.{AreLeaving, ArePoints}
use Rattle.seconds_search.specs.Relaxation.{IsRelaxed, PlainDistances, total}

-- rounds over the edges between n points
pub record AreRounds (n : ℕ) (edges : List Edge) (rounds : Rounds) : Type 0 where
  pub leaving : AreLeaving n edges rounds.leaving
  pub order : ArePoints n rounds.order.items
  pub due : length rounds.is_due.items ≡ n
  pub turns : length rounds.turns.items ≡ n
  pub again : ArePoints n rounds.again.items

-- whether a distance was lowered: if not, all are as they were
abbrev pub Lowers : PlainDistances → PlainDistances → Bool → Type 0
Lowers old new true = total new.seconds < total old.seconds
Lowers old new false = new ≡ old

-- Distances are lowered further by edges, the last one that of a point that is found, or else they are as they were.
pub record GoOn (edges : List Edge) (old new : PlainDistances) (found : Option ℕ) : Type 0 where
  pub relaxed : IsRelaxed edges new
  pub size : length new.seconds ≡ length old.seconds
  pub lowered : MatchOption found (new ≡ old) (λ p. (p < length new.seconds) × (total new.seconds < total old.seconds))
