-- Texts of durations, as `P1Y2M3DT4H5M6S`.
use Rattle.std.specs.Prelude.{◌≡◌, ℕ, ◌⊎◌, Bool, true, false, ◌||◌, List, [], ◌∷◌, ◌++◌, length, codes, IsTrue, IsFalse}
use Rattle.std.specs.Int.{IsInRange}
use Rattle.std.specs.Str.Parse.{AllDigits, digits_value}
use Rattle.timex_value.specs.declared.length.Count.{Count}
use Rattle.timex_value.specs.declared.length.Count.TheVariants.{Absent, Number, Unknown}
use Rattle.timex_value.specs.declared.length.Length.{Length}

-- a count with its unit: nothing, or one to nine digits and the unit, or X and the unit
abbrev pub CountText : ℕ → Count → List ℕ → Type 0
CountText unit Absent text = text ≡ []
CountText unit (Number n) text =
    (digits : List ℕ) × AllDigits 10 digits × IsInRange 1 9 (length digits) × (n ≡ digits_value 10 digits)
    × (text ≡ digits ++ (unit ∷ []))
CountText unit Unknown text = text ≡ codes "X" ++ (unit ∷ [])

-- a count with its unit, and then the rest
abbrev pub CountThen : ℕ → Count → List ℕ → List ℕ → Type 0
CountThen unit count text rest = (prefix : List ℕ) × CountText unit count prefix × (text ≡ prefix ++ rest)

-- counts with these units in their order, and then the rest
abbrev pub CountsThen : List ℕ → List Count → List ℕ → List ℕ → Type 0
CountsThen [] [] text rest = text ≡ rest
CountsThen (unit ∷ units) (count ∷ counts) text rest =
    (next : List ℕ) × CountThen unit count text next × CountsThen units counts next rest
CountsThen units counts text rest = ⊥

-- years, months, weeks and days, and then the rest
abbrev pub DateThen : Count → Count → Count → Count → List ℕ → List ℕ → Type 0
DateThen years months weeks days = CountsThen (codes "YMWD") (years ∷ months ∷ weeks ∷ days ∷ [])

-- hours, minutes and seconds, and then the rest
abbrev pub ClockThen : Count → Count → Count → List ℕ → List ℕ → Type 0
ClockThen hours minutes seconds = CountsThen (codes "HMS") (hours ∷ minutes ∷ seconds ∷ [])

-- a number or an X is written
abbrev pub is_present : Count → Bool
is_present Absent = false
is_present count = true

-- at least one count of a clock is written
abbrev pub has_clock : Count → Count → Count → Bool
has_clock hours minutes seconds = is_present hours || is_present minutes || is_present seconds

-- nothing, or T and then hours, minutes and seconds, at least one of them
abbrev pub ClockText : Count → Count → Count → List ℕ → Type 0
ClockText hours minutes seconds text =
    (IsFalse (has_clock hours minutes seconds) × (text ≡ []))
    ⊎ (IsTrue (has_clock hours minutes seconds)
    × ((timed : List ℕ) × (text ≡ codes "T" ++ timed) × ClockThen hours minutes seconds timed []))

-- at least one count is written
abbrev pub is_length : Length → Bool
is_length l =
    is_present l.years || is_present l.months || is_present l.weeks || is_present l.days
    || has_clock l.hours l.minutes l.seconds

-- P, then the counts of a date, then those of a clock, at least one count in all
abbrev pub SpellsLength : Length → List ℕ → Type 0
SpellsLength l text =
    (dated : List ℕ) × (timed : List ℕ)
    × (text ≡ codes "P" ++ dated) × DateThen l.years l.months l.weeks l.days dated timed
    × ClockText l.hours l.minutes l.seconds timed × IsTrue (is_length l)

-- the text is that of no duration
abbrev pub NoLength : List ℕ → Type 0
NoLength text = (l : Length) → SpellsLength l text → ⊥
