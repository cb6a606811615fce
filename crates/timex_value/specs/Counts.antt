-- Serves the code: what is read of a duration, count by count.
use Rattle.std.specs.Prelude.{◌≡◌, ℕ, List}
use Rattle.timex_value.specs.declared.length.Count.{Count}
use Rattle.timex_value.specs.declared.length.Count.TheVariants.{Absent, Number, Unknown}
use Rattle.timex_value.specs.Durations.{ClockText, CountThen}

-- the text begins with no number of this unit
abbrev pub NoNumber : ℕ → List ℕ → Type 0
NoNumber unit text = (n : ℕ) (rest : List ℕ) → CountThen unit (Number n) text rest → ⊥

-- the text begins with no X of this unit
abbrev pub NoUnknown : ℕ → List ℕ → Type 0
NoUnknown unit text = (rest : List ℕ) → CountThen unit Unknown text rest → ⊥

-- the text is that of no clock
abbrev pub NoClock : List ℕ → Type 0
NoClock text = (hours minutes seconds : Count) → ClockText hours minutes seconds text → ⊥

-- a count as it is read: absent only where the text begins with no number and no X of its unit
pub record ReadsCount (unit : ℕ) (count : Count) (text rest : List ℕ) : Type 0 where
  pub then : CountThen unit count text rest
  pub none : count ≡ Absent → NoNumber unit text × NoUnknown unit text
