-- Seconds, and the least and the greatest of a set of them.
use Rattle.std.specs.Prelude.{◌≡◌, ℕ, ◌-◌, ◌/◌, ◌%◌, ℤ, pos, neg_ℤ, ◌-ℤ◌, ◌<ℤ◌, ◌≤ℤ◌}
use Rattle.timex_value.specs.Civil.{weekday}

-- the number of a day that is counted from 0001-01-01, where 1970-01-01 is day 0
abbrev pub day_number : ℕ → ℤ
day_number n = pos n -ℤ pos 719_162

-- the number of a second that is counted from 0001-01-01T00:00:00, where 1970-01-01T00:00:00 is second 0
abbrev pub second_number : ℕ → ℤ
second_number t = pos t -ℤ pos 62_135_596_800

-- the day in which a second lies
abbrev pub day_of : ℕ → ℕ
day_of t = t / 86_400

-- how many seconds of its day come before it
abbrev pub clock_of : ℕ → ℕ
clock_of t = t % 86_400

-- the Monday of the week of a day
abbrev pub monday_of : ℕ → ℕ
monday_of n = n - weekday n

-- the set has the second with this number
abbrev pub HasSecond : (ℕ → Type 0) → ℤ → Type 0
HasSecond P s = (t : ℕ) × (s ≡ second_number t) × P t

-- lo is the least second of the set, and hi is one past its greatest
unfoldable pub Extent : (ℕ → Type 0) → ℤ → ℤ → Type 0
Extent P lo hi =
    HasSecond P lo × ((s : ℤ) → HasSecond P s → lo ≤ℤ s)
    × HasSecond P (hi -ℤ pos 1) × ((s : ℤ) → HasSecond P s → s <ℤ hi)

-- from 0001-01-01 to 9999-12-31
abbrev pub IsDayNumber : ℤ → Type 0
IsDayNumber z = (neg_ℤ (pos 719_162) ≤ℤ z) × (z ≤ℤ pos 2_932_896)

-- from 0001-01-01T00:00:00 to 10000-01-03T00:00:00
abbrev pub IsCivilSecond : ℤ → Type 0
IsCivilSecond s = (neg_ℤ (pos 62_135_596_800) ≤ℤ s) × (s ≤ℤ pos 253_402_473_600)
