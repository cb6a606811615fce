-- Sets of seconds, which are counted from 0001-01-01T00:00:00. The weeks are those of ISO 8601.
use Rattle.std.specs.Prelude.{◌≡◌, ℕ, ◌+◌, ◌/◌, ◌%◌}
use Rattle.timex_value.specs.declared.shape.Year.{Year}
use Rattle.timex_value.specs.Civil.{IsDate, day_index, weekday, IsInYear, IsInMonth, IsDateOf, IsInWeek, thursday_of}
use Rattle.timex_value.specs.Filling.{IsYearOf}
use Rattle.timex_dates.specs.Seconds.{day_of, clock_of}

-- the days of the years that a year with X can be, and so of the decade or the century that shares its digits
abbrev pub InYears : Year → ℕ → Type 0
InYears year t = (y : ℕ) × IsYearOf year y × IsInYear (day_of t) y

-- the weeks of these years, where a week belongs to the year of its Thursday
abbrev pub InWeekYears : Year → ℕ → Type 0
InWeekYears year t = (y : ℕ) × IsYearOf year y × IsInYear (thursday_of (day_of t)) y

-- the days of a month of the year
abbrev pub InMonth : ℕ → ℕ → ℕ → Type 0
InMonth y m t = IsInMonth (day_of t) y m

-- the days of a quarter, of which the first has the months 1 to 3
abbrev pub InQuarter : ℕ → ℕ → ℕ → Type 0
InQuarter y q t = (m : ℕ) × ((m + 2) / 3 ≡ q) × IsInMonth (day_of t) y m

-- the days of a half of TimeML, of which the first has the months 1 to 6
abbrev pub InHalf : ℕ → ℕ → ℕ → Type 0
InHalf y h t = (m : ℕ) × ((m + 5) / 6 ≡ h) × IsInMonth (day_of t) y m

-- the day of the date
abbrev pub InDay : ℕ → ℕ → ℕ → ℕ → Type 0
InDay y m d t = IsDateOf (day_of t) y m d

-- the days of a week of the year
abbrev pub InWeek : ℕ → ℕ → ℕ → Type 0
InWeek y w t = IsInWeek (day_of t) y w

-- one day of the week, where Monday is 1
abbrev pub InWeekday : ℕ → ℕ → ℕ → ℕ → Type 0
InWeekday y w d t = InWeek y w t × (weekday (day_of t) + 1 ≡ d)

-- the hour of the date, where hour 24 is hour 0 of the next day
abbrev pub InHour : ℕ → ℕ → ℕ → ℕ → ℕ → Type 0
InHour y m d h t = IsDate y m d × (day_of t ≡ day_index y m d + h / 24) × (clock_of t / 3600 ≡ h % 24)

-- a minute of the hour
abbrev pub InMinute : ℕ → ℕ → ℕ → ℕ → ℕ → ℕ → Type 0
InMinute y m d h i t = InHour y m d h t × (clock_of t / 60 % 60 ≡ i)

-- a second of the minute
abbrev pub InSecond : ℕ → ℕ → ℕ → ℕ → ℕ → ℕ → ℕ → Type 0
InSecond y m d h i s t = InMinute y m d h i t × (clock_of t % 60 ≡ s)
