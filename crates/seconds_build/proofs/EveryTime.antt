-- The limits of every time are lengths, and every document has a net with limits.
use Rattle.std.proofs.Common.{◌≡◌, ℕ, ◌<◌, true, false, nat_lt, map, get_or, Option, None, Some, refl, arith}
use Rattle.std.specs.Prelude.{pos, if◌then◌else◌}
use Rattle.std.specs.Option.{option_map_or}
use Rattle.std.proofs.lemmas.Bool.Decides.{nat_tests}
use Rattle.std.proofs.lemmas.Int.{ints}
use Rattle.std.proofs.lemmas.List.Elements.{All-map}
use Rattle.net_build.proofs.EveryNet.{every_net}
use Rattle.seconds_core.specs.Timed.{AreLengths, max_length}
use Rattle.seconds_core.specs.declared.timed.Limits.{Limits}
use Rattle.timex_value.specs.declared.kinds.Modifier.{Modifier}
use Rattle.timex_value.specs.declared.kinds.Modifier.TheVariants as ModifierOf
use Rattle.timex_value.specs.declared.kinds.TimexKind.{TimexKind}
use Rattle.timex_value.specs.declared.kinds.TimexKind.TheVariants as KindOf
use Rattle.timex_value.specs.declared.value.Value.{Value}
use Rattle.timex_value.specs.declared.value.Value.TheVariants as ValueOf
use Rattle.tml_refs.specs.Documents.{PlainInterval, instance, time}
use Rattle.seconds_build.specs.Built.{EveryTimed, interval_limits}
use Rattle.seconds_build.specs.Lengths.{limits_by, limits_of, no_limits, length_seconds, ◌>>=◌}
use Rattle.seconds_build.proofs.Nets.{is_timed}

lengths_by : (modifier : Option Modifier) (n : ℕ) → n < max_length → AreLengths (limits_by modifier (pos n))
lengths_by None n below = ((omega (arith, ints), omega (arith, ints)), (omega (arith, ints), omega (arith, ints)))
lengths_by (Some ModifierOf.LessThan) n below = (tt, (omega (arith, ints), omega (arith, ints)))
lengths_by (Some ModifierOf.EqualOrLess) n below = (tt, (omega (arith, ints), omega (arith, ints)))
lengths_by (Some ModifierOf.MoreThan) n below = ((omega (arith, ints), omega (arith, ints)), tt)
lengths_by (Some ModifierOf.EqualOrMore) n below = ((omega (arith, ints), omega (arith, ints)), tt)
lengths_by (Some modifier) n below = (tt, tt)

-- the limits by a length, if there is one
abbrev limits_if : Option Modifier → Option ℕ → Limits
limits_if modifier length = option_map_or (λ n. limits_by modifier (pos n)) length no_limits

-- seconds give limits where they are below the greatest length
lengths_below : (modifier : Option Modifier) (seconds : Option ℕ) → AreLengths (limits_if modifier (seconds >>= λ n. if nat_lt n max_length then Some n else None))
lengths_below modifier None = (tt, tt)
lengths_below modifier (Some n) = elim (nat_lt n max_length) as (λ b. nat_lt n max_length ≡ b → AreLengths (limits_if modifier (if b then Some n else None))) [
  | true ↦ λ e. lengths_by modifier n (grind (arith, nat_tests))
  | false ↦ λ e. (tt, tt)
] refl

lengths_of : (kind : TimexKind) (modifier : Option Modifier) (value : Option Value) → AreLengths (limits_of kind modifier value)
lengths_of KindOf.Duration modifier (Some (ValueOf.Duration l)) = lengths_below modifier (length_seconds l)
lengths_of kind modifier value = (tt, tt)

interval_lengths : (v : PlainInterval) → AreLengths (interval_limits v)
interval_lengths (instance name) = (tt, tt)
interval_lengths (time t) = lengths_of t.kind t.modifier t.value

pub every_timed : EveryTimed
every_timed doc is_document =
    let net = every_net doc is_document in
    let limits = map interval_limits doc.intervals in
    let lengths = All-map AreLengths interval_limits doc.intervals (λ k d below. interval_lengths (get_or doc.intervals k d)) in
    (record { net = net.0; limits = limits }, record { net = net.1; limits = refl }, is_timed doc net.0 limits net.1 net.2 net.3 refl lengths)
