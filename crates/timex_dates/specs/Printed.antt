-- The text of a civil date and time, `YYYY-MM-DDThh:mm:ss`.
use Rattle.std.specs.Prelude.{◌≡◌, ℕ, ℤ, ◌-◌, ◌/◌, ◌%◌, List, ◌++◌, codes, drop, nat_lt, if◌then◌else◌}
use Rattle.timex_value.specs.Civil.{IsDateOf}
use Rattle.timex_value.specs.Text.{digits2, digits4}
use Rattle.timex_dates.specs.Seconds.{day_of, clock_of, HasSecond, IsCivilSecond}
use Rattle.timex_dates.specs.declared.civil.CivilText.{CivilText}

-- four digits, and for 10000 a `1` before four of them
abbrev pub civil_year : ℕ → List ℕ
civil_year y = if nat_lt y 10_000 then digits4 y else codes "1" ++ digits4 (y - 10_000)

-- year, month, day, and the time that is this number of seconds into the day
abbrev pub printed : ℕ → ℕ → ℕ → ℕ → List ℕ
printed y m d clock =
    civil_year y ++ codes "-" ++ digits2 m ++ codes "-" ++ digits2 d
    ++ codes "T" ++ digits2 (clock / 3600) ++ codes ":" ++ digits2 (clock / 60 % 60)
    ++ codes ":" ++ digits2 (clock % 60)

-- the bytes are the text of the date and the time of the second
abbrev pub IsPrinted : ℕ → List ℕ → Type 0
IsPrinted t bytes =
    (y : ℕ) × (m : ℕ) × (d : ℕ) × IsDateOf (day_of t) y m d × (bytes ≡ printed y m d (clock_of t))

-- the bytes are the civil text of the second that has this number
abbrev pub IsCivilText : ℤ → List ℕ → Type 0
IsCivilText second bytes = HasSecond (λ t. IsPrinted t bytes) second

-- the text, which leaves out the first byte where the year has four digits
abbrev pub bytes_of : CivilText → List ℕ
bytes_of c = if c.wide then c.bytes else drop 1 c.bytes

-- a second has one civil text
abbrev pub OneText : Type 0
OneText = (second : ℤ) (a b : List ℕ) → IsCivilText second a → IsCivilText second b → a ≡ b

-- a second of the civil calendar has a civil text
abbrev pub EveryText : Type 0
EveryText = (second : ℤ) → IsCivilSecond second → (text : List ℕ) × IsCivilText second text
