use Rattle.std.proofs.Common.{map, ◌*◌, ◌<◌, ◌≡◌}
use Rattle.std.specs.List.{range_with_len}
use Rattle.drill.specs.Numbers as spec
use Rattle.drill.proofs.drawing.hidden_intervals.Given as goal

-- the first intervals are made, of the first numbers
abbrev pub invariant-loop : goal.invariant-loop
invariant-loop l = record {
  intervals : l.hidden.items ≡ map (spec.hidden l.n) (range_with_len 0 l.counter);
  last : l.draws.last ≡ spec.drawn l.n (2 * l.counter);
  within : l.draws.last < 65537;
}
