-- How long a time lasts: by its kind, its modifier and its value.
use Rattle.std.specs.Prelude.{ℕ, ◌+◌, ◌*◌, ◌<◌, ◌||◌, nat_lt, ℤ, pos, ◌+ℤ◌, ◌-ℤ◌, List, Option, Some, None, IfSome, option_and_then, if◌then◌else◌}
use Rattle.std.specs.Option.{option_map_or}
use Rattle.seconds_core.specs.Timed.{max_length}
use Rattle.seconds_core.specs.declared.timed.Limits.{Limits}
use Rattle.timex_value.specs.Durations.{SpellsLength, is_present}
use Rattle.timex_value.specs.declared.kinds.Modifier.{Modifier}
use Rattle.timex_value.specs.declared.kinds.Modifier.TheVariants as ModifierOf
use Rattle.timex_value.specs.declared.kinds.TimexKind.{TimexKind}
use Rattle.timex_value.specs.declared.kinds.TimexKind.TheVariants as KindOf
use Rattle.timex_value.specs.declared.length.Count.{Count}
use Rattle.timex_value.specs.declared.length.Count.TheVariants.{Absent, Number, Unknown}
use Rattle.timex_value.specs.declared.length.Length.{Length}
use Rattle.timex_value.specs.declared.value.Value.{Value}
use Rattle.timex_value.specs.declared.value.Value.TheVariants as ValueOf

infixl 10 ◌>>=◌
abbrev pub ◌>>=◌ : {A B : Type 0} → Option A → (A → Option B) → Option B
o >>= f = option_and_then f o

-- how many there are of a unit: none where it is not written, and unknown where an X is
abbrev pub count_number : Count → Option ℕ
count_number Absent = Some 0
count_number (Number n) = Some n
count_number Unknown = None

-- the seconds of weeks, days, hours, minutes and seconds, where each of them is known
abbrev pub seconds_in : Count → Count → Count → Count → Count → Option ℕ
seconds_in weeks days hours minutes seconds = do
  w ← count_number weeks
  d ← count_number days
  h ← count_number hours
  m ← count_number minutes
  s ← count_number seconds
  Some (604_800 * w + 86_400 * d + 3_600 * h + 60 * m + s)

-- the seconds of a duration, where no years and no months are written: not all of these last the same
abbrev pub length_seconds : Length → Option ℕ
length_seconds l =
    if is_present l.years || is_present l.months then None
    else seconds_in l.weeks l.days l.hours l.minutes l.seconds

-- the length of a duration: its seconds, where they are below the limit
abbrev pub length_of : Length → Option ℕ
length_of l = do
  n ← length_seconds l
  if nat_lt n max_length then Some n else None

abbrev pub no_limits : Limits
no_limits = record { least = None; most = None }

abbrev pub lasts_at_least : ℤ → Limits
lasts_at_least n = record { least = Some n; most = None }

abbrev pub lasts_at_most : ℤ → Limits
lasts_at_most n = record { least = None; most = Some n }

-- the limits of what has this modifier, and lasts n seconds without it
abbrev pub limits_by : Option Modifier → ℤ → Limits
limits_by None n = record { least = Some n; most = Some n }
limits_by (Some ModifierOf.LessThan) n = lasts_at_most (n -ℤ pos 1)
limits_by (Some ModifierOf.EqualOrLess) n = lasts_at_most n
limits_by (Some ModifierOf.MoreThan) n = lasts_at_least (n +ℤ pos 1)
limits_by (Some ModifierOf.EqualOrMore) n = lasts_at_least n
limits_by (Some modifier) n = no_limits

-- the limits of a time: those of a duration that has a length, and none of all else
abbrev pub limits_of : TimexKind → Option Modifier → Option Value → Limits
limits_of KindOf.Duration modifier (Some (ValueOf.Duration l)) =
    option_map_or (λ n. limits_by modifier (pos n)) (length_of l) no_limits
limits_of kind modifier value = no_limits

-- the law: the seconds of a duration that a text spells are below the limit
abbrev pub DurationsAreBelowTheLimit : Type 0
DurationsAreBelowTheLimit = (text : List ℕ) (l : Length) → SpellsLength l text → IfSome (length_seconds l) (λ n. n < max_length)
