-- Serves the code: what a line says, which is what names a constraint, or how many intervals or lines there are.
use Rattle.std.specs.Prelude.{List, ℕ, Option, option_map, codes}
use Rattle.std.specs.Option.{option_or}
use Rattle.line_texts.specs.Words.{one_of, two_of}
use Rattle.seconds_core.specs.declared.line.Line.{Line}
use Rattle.seconds_core.specs.declared.line.Line.TheVariants.{Span, Via, Lower, Upper, Least, Most}
use Rattle.seconds_format.specs.declared.head.SecondsHead.{SecondsHead}
use Rattle.seconds_format.specs.declared.head.SecondsHead.TheVariants as head

-- the line of a cycle
unfoldable pub cycle_line_of : List ℕ → Option Line
cycle_line_of line =
    option_or (option_map (λ i. Span i) (one_of (codes "span ") line))
    (option_or (option_map (λ pair. Via pair.0 pair.1) (two_of (codes "via ") line))
    (option_or (option_map (λ p. Lower p) (one_of (codes "lower ") line))
    (option_or (option_map (λ p. Upper p) (one_of (codes "upper ") line))
    (option_or (option_map (λ i. Least i) (one_of (codes "least ") line))
    (option_map (λ i. Most i) (one_of (codes "most ") line))))))

-- the kind of evidence, by the line that names it
unfoldable pub head_of : List ℕ → Option SecondsHead
head_of line =
    option_or (option_map (λ n. head.Placing n) (one_of (codes "placing ") line))
    (option_map (λ n. head.Cycle n) (one_of (codes "cycle ") line))
