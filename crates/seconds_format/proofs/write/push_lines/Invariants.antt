use Rattle.std.proofs.Common.{◌≡◌, ℕ, ◌<◌, ◌++◌, slice_index_or, take}
use Rattle.std.specs.List.{flat_map}
use Rattle.seconds_core.specs.declared.line.Line.{Line}
use Rattle.seconds_format.specs.Texts.{HasLineNumbers, cycle_line}
use Rattle.seconds_format.proofs.write.push_lines.Given as goal

-- the lines of the first ones are written
abbrev pub invariant-loop-line : goal.invariant-loop-line
invariant-loop-line l = record {
  bytes : l.out.items ≡ l.initial.out.items ++ flat_map cycle_line (take l.line-index l.lines);
  good : (k : ℕ) (d : Line) → k < l.line-index → HasLineNumbers (slice_index_or l.lines k d);
}
