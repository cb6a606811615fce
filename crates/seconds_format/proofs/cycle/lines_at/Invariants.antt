use Rattle.std.proofs.Common.{◌≡◌, ◌-◌, length}
use Rattle.line_texts.specs.Lines.{lines_of}
use Rattle.line_texts.specs.Reading.{line_at, many_at}
use Rattle.line_texts.proofs.Loops.{with_prefix}
use Rattle.seconds_format.specs.Forms.{cycle_line_of}
use Rattle.seconds_format.proofs.cycle.lines_at.Given as goal

-- what was read and what is still read are all
abbrev pub invariant-loop : goal.invariant-loop
invariant-loop l = record {
  lines : with_prefix l.lines (many_at (line_at cycle_line_of) (l.count - l.counter) (lines_of l.rest)) ≡ many_at (line_at cycle_line_of) l.count (lines_of l.text);
  size : length l.lines ≡ l.counter;
}
