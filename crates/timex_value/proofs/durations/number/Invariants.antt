use Rattle.std.proofs.Common.{◌≡◌, take}
use Rattle.std.specs.Str.Parse.{digits_value}
use Rattle.timex_value.proofs.durations.number.Given as goal

-- the number of the digits so far
abbrev pub invariant-loop-b : goal.invariant-loop-b
invariant-loop-b l = l.n ≡ digits_value 10 (take l.b-index l.digits)
