-- Serves the code: the bytes of a placing or a cycle, as they are written.
use Rattle.std.specs.Prelude.{ℕ, ℤ, List, ◌++◌, length, codes}
use Rattle.std.specs.List.{flat_map}
use Rattle.line_texts.specs.Lines.{last_line}
use Rattle.line_texts.specs.Numbers.{one_number}
use Rattle.seconds_core.specs.Evidence.{PlainSeconds, Placed, Cycle}
use Rattle.seconds_core.specs.declared.line.Line.{Line}
use Rattle.seconds_format.specs.Texts.{seconds_at_line, cycle_line, seconds_first_line, pairs_of_seconds}

abbrev pub placing_bytes : List ℤ → List ℕ
placing_bytes seconds = one_number (codes "placing ") (length (pairs_of_seconds seconds)) ++ flat_map seconds_at_line (pairs_of_seconds seconds)

abbrev pub cycle_bytes : List Line → List ℕ
cycle_bytes lines = one_number (codes "cycle ") (length lines) ++ flat_map cycle_line lines

abbrev pub seconds_body_bytes : PlainSeconds → List ℕ
seconds_body_bytes (Placed seconds) = placing_bytes seconds
seconds_body_bytes (Cycle lines) = cycle_bytes lines

abbrev pub text_bytes : PlainSeconds → List ℕ
text_bytes e = seconds_first_line ++ (seconds_body_bytes e ++ last_line)
