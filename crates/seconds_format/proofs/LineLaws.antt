-- Each line of a text is one.
use Rattle.std.proofs.Common.{◌≡◌, suc, true, ℤ, pos, negsuc, [], ◌∷◌, ◌++◌, length, refl, arith}
use Rattle.std.specs.Prelude.{codes}
use Rattle.std.specs.Fmt.{signed_decimal}
use Rattle.std.specs.List.{AllByRecursion, list_all}
use Rattle.std.proofs.lemmas.List.Elements.{recursion_from_All}
use Rattle.named.proofs.Lists.{all_append, each_joined}
use Rattle.line_texts.specs.Lines.{last_line}
use Rattle.line_texts.specs.Words.{is_not}
use Rattle.line_texts.proofs.LineLaws.{IsLine, mapped_are, one_is, two_is}
use Rattle.line_texts.proofs.WordLaws.{long_differ}
use Rattle.seconds_core.specs.Evidence.{PlainSeconds, Placed, Cycle}
use Rattle.seconds_core.specs.declared.line.Line.{Line}
use Rattle.seconds_core.specs.declared.line.Line.TheVariants.{Span, Via, Lower, Upper, Least, Most}
use Rattle.seconds_format.specs.Texts.{HasLineNumbers, IsLong, IsLongPair, IsWellFormedSeconds, seconds_at_line, seconds_body_lines, cycle_line, pairs_of_seconds, seconds_text_lines}
use Rattle.seconds_format.proofs.PairLaws.{long_again, pairs_length}

-- a second has no LF
second_is : (z : ℤ) → IsLong z → list_all (is_not 10) (signed_decimal z) ≡ true
second_is (pos n) fits = let small = fits.sfits in long_differ 10 n (omega arith) (omega arith)
second_is (negsuc n) fits = let small = fits.sfits in long_differ 10 (suc n) (omega arith) (omega arith)

-- the seconds of an interval are a whole line
at_is : (pair : ℤ × ℤ) → IsLongPair pair → IsLine (seconds_at_line pair)
at_is pair fits =
    let one = all_append (is_not 10) (codes "at ") (signed_decimal pair.0) refl (second_is pair.0 fits.0) in
    let space = all_append (is_not 10) (codes "at " ++ signed_decimal pair.0) (codes " ") one refl in
    (codes "at " ++ signed_decimal pair.0 ++ codes " " ++ signed_decimal pair.1, all_append (is_not 10) (codes "at " ++ signed_decimal pair.0 ++ codes " ") (signed_decimal pair.1) space (second_is pair.1 fits.1), refl)

-- a line of a cycle is whole
cycle_line_is : (line : Line) → HasLineNumbers line → IsLine (cycle_line line)
cycle_line_is (Span i) h = one_is (codes "span ") i refl h
cycle_line_is (Via link atom) h = two_is (codes "via ") link atom refl h.0 h.1
cycle_line_is (Lower p) h = one_is (codes "lower ") p refl h
cycle_line_is (Upper p) h = one_is (codes "upper ") p refl h
cycle_line_is (Least i) h = one_is (codes "least ") i refl h
cycle_line_is (Most i) h = one_is (codes "most ") i refl h

-- what stands between the first line and the last one is whole lines
body_is : (e : PlainSeconds) → IsWellFormedSeconds e → AllByRecursion IsLine (seconds_body_lines e)
body_is (Placed seconds) h = (one_is (codes "placing ") (length (pairs_of_seconds seconds)) refl (omega (arith, pairs_length seconds h.0.0, h.0.1)), mapped_are IsLongPair seconds_at_line at_is (pairs_of_seconds seconds) (long_again seconds h.1))
body_is (Cycle lines) h = (one_is (codes "cycle ") (length lines) refl h.1, mapped_are HasLineNumbers cycle_line cycle_line_is lines (recursion_from_All HasLineNumbers lines h.0))

-- the lines of a text are whole
pub text_is : (e : PlainSeconds) → IsWellFormedSeconds e → AllByRecursion IsLine (seconds_text_lines e)
text_is e h = ((codes "tml-seconds 1", refl, refl), each_joined IsLine (seconds_body_lines e) (last_line ∷ []) (body_is e h) ((codes "end", refl, refl), tt))
