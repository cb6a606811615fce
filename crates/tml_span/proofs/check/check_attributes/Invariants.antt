use Rattle.std.proofs.Common.{◌≡◌, ◌+◌, ◌≤◌, length}
use Rattle.tml_span.proofs.Checks.{HasChecked}
use Rattle.tml_span.proofs.check.check_attributes.Given as goal

abbrev pub invariant-loop-attr : goal.invariant-loop-attr
invariant-loop-attr l = record {
  place : l.at + length l.rest ≡ l.fn.place + length l.fn.bytes;
  shorter : length l.rest ≤ length l.fn.bytes;
  checked : HasChecked l.fn.place l.fn.bytes l.at l.rest l.bad;
}

abbrev pub decreases-loop-attr : goal.decreases-loop-attr
decreases-loop-attr l = length l.rest
