use Rattle.std.proofs.Common.{◌≡◌, ◌*◌, ◌-◌, length}
use Rattle.line_texts.specs.Lines.{lines_of}
use Rattle.line_texts.specs.Reading.{line_at, many_at}
use Rattle.line_texts.proofs.Loops.{with_prefix}
use Rattle.seconds_format.specs.Texts.{pairs_of_seconds}
use Rattle.seconds_format.specs.Words.{pair_of}
use Rattle.seconds_format.proofs.placing.pairs_at.Given as goal

-- what was read and what is still read are all
abbrev pub invariant-loop : goal.invariant-loop
invariant-loop l = record {
  pairs : with_prefix (pairs_of_seconds l.seconds) (many_at (line_at pair_of) (l.count - l.counter) (lines_of l.rest)) ≡ many_at (line_at pair_of) l.count (lines_of l.text);
  size : length l.seconds ≡ 2 * l.counter;
}
