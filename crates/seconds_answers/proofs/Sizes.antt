-- How long the text of a placing or of a cycle is.
use Rattle.std.proofs.Common.{◌≡◌, ℕ, ℤ, pos, negsuc, suc, ◌+◌, ◌*◌, ◌^◌, ◌<◌, ◌≤◌, List, [], ◌∷◌, ◌++◌, length, map, codes, decimal, refl, ap, arith}
use Rattle.std.specs.Fmt.{signed_decimal}
use Rattle.std.specs.List.{AllByRecursion, concat}
use Rattle.std.proofs.lemmas.Fmt.{length-decimal-le}
use Rattle.std.proofs.lemmas.List.{length-append}
use Rattle.std.proofs.lemmas.List.Elements.{recursion_from_All}
use Rattle.std.proofs.lemmas.List.Folds.{concat-append}
use Rattle.line_texts.specs.Numbers.{IsNumber, one_number}
use Rattle.line_texts.specs.Lines.{last_line}
use Rattle.net_core.specs.Limits.{max_evidence}
use Rattle.seconds_core.specs.Evidence.{PlainSeconds, Placed, Cycle}
use Rattle.seconds_core.specs.Timed.{IsTimed, PlainTimed}
use Rattle.seconds_core.specs.declared.line.Line.{Line}
use Rattle.seconds_core.specs.declared.line.Line.TheVariants.{Span, Via, Lower, Upper, Least, Most}
use Rattle.seconds_format.specs.Texts.{HasLineNumbers, IsLong, IsLongPair, IsSecondsText, seconds_at_line, seconds_body_lines, cycle_line, seconds_first_line, pairs_of_seconds, seconds_text_lines}
use Rattle.seconds_format.proofs.PairLaws.{long_again, pairs_length}
use Rattle.runs.specs.declared.status.Status.{Status}
use Rattle.runs.specs.declared.status.Status.TheVariants.{Clash, Done}
use Rattle.seconds_answers.specs.Seconds.{OfTimed}

-- ---- lines

number_size : (n : ℕ) → IsNumber n → length (decimal n) ≤ 10
number_size n small = length-decimal-le 10 n (omega arith) (omega (arith, small)) (omega (arith, small))

-- a keyword, a number and an LF
one_size : (keyword : List ℕ) (n : ℕ) → IsNumber n → length (one_number keyword n) ≤ length keyword + 11
one_size keyword n small =
    let all : length (one_number keyword n) ≡ length (keyword ++ decimal n) + 1 = length-append (keyword ++ decimal n) (codes "\n") in
    omega (arith, number_size n small, all, length-append keyword (decimal n))

cycle_line_size : (line : Line) → HasLineNumbers line → length (cycle_line line) ≤ 26
cycle_line_size (Span i) small = omega (arith, one_size (codes "span ") i small)
cycle_line_size (Via link atom) small =
    let begun = codes "via " ++ decimal link in
    let spaced : length (begun ++ codes " ") ≡ length begun + 1 = length-append begun (codes " ") in
    omega (arith, one_size (begun ++ codes " ") atom small.1, spaced, length-append (codes "via ") (decimal link), number_size link small.0)
cycle_line_size (Lower p) small = omega (arith, one_size (codes "lower ") p small)
cycle_line_size (Upper p) small = omega (arith, one_size (codes "upper ") p small)
cycle_line_size (Least i) small = omega (arith, one_size (codes "least ") i small)
cycle_line_size (Most i) small = omega (arith, one_size (codes "most ") i small)

-- a second has at most nineteen digits, and a sign
second_size : (second : ℤ) → IsLong second → length (signed_decimal second) ≤ 20
second_size (pos n) fits = let small : n < 2 ^ 63 = fits.sfits in omega (arith, length-decimal-le 19 n (omega arith) (omega (arith, small)) (omega (arith, small)))
second_size (negsuc n) fits = let small : n < 2 ^ 63 = fits.sfits in omega (arith, length-decimal-le 19 (suc n) (omega arith) (omega (arith, small)) (omega (arith, small)))

at_line_size : (pair : ℤ × ℤ) → IsLongPair pair → length (seconds_at_line pair) ≤ 45
at_line_size pair long =
    let first = codes "at " ++ signed_decimal pair.0 in
    let second = first ++ codes " " ++ signed_decimal pair.1 in
    let all : length (seconds_at_line pair) ≡ length second + 1 = length-append second (codes "\n") in
    let last : length second ≡ length (first ++ codes " ") + length (signed_decimal pair.1) = length-append (first ++ codes " ") (signed_decimal pair.1) in
    let spaced : length (first ++ codes " ") ≡ length first + 1 = length-append first (codes " ") in
    let begun : length first ≡ 3 + length (signed_decimal pair.0) = length-append (codes "at ") (signed_decimal pair.0) in
    omega (arith, all, last, spaced, begun, second_size pair.0 long.0, second_size pair.1 long.1)

-- a line for each element, of `width` bytes at most
lines_size : {X : Type 0} (IsFit : X → Type 0) (line_for : X → List ℕ) (width : ℕ) → ((x : X) → IsFit x → length (line_for x) ≤ width) → (xs : List X) → AllByRecursion IsFit xs → length (concat (map line_for xs)) ≤ width * length xs
lines_size IsFit line_for width narrow [] fit = omega arith
lines_size IsFit line_for width narrow (x ∷ xs) fit = omega (arith, narrow x fit.0, length-append (line_for x) (concat (map line_for xs)), lines_size IsFit line_for width narrow xs fit.1)

-- ---- the text

-- the first line and the last one besides the body
text_size : (e : PlainSeconds) (text : List ℕ) (size : ℕ) → IsSecondsText e text → length (concat (seconds_body_lines e)) ≤ size → length text ≤ size + 18
text_size e text size is body =
    let all : length text ≡ length (concat (seconds_text_lines e)) = ap (λ (bytes : List ℕ). length bytes) is.1 in
    let fourteen : length seconds_first_line ≡ 14 = refl in
    let four : length (concat (last_line ∷ [])) ≡ 4 = refl in
    let after : length (concat (seconds_body_lines e ++ last_line ∷ [])) ≡ length (concat (seconds_body_lines e) ++ concat (last_line ∷ [])) = ap (λ (bytes : List ℕ). length bytes) (concat-append (seconds_body_lines e) (last_line ∷ [])) in
    omega (arith, all, length-append seconds_first_line (concat (seconds_body_lines e ++ last_line ∷ [])), fourteen, after, length-append (concat (seconds_body_lines e)) (concat (last_line ∷ [])), four, body)

placing_size : (seconds : List ℤ) (text : List ℕ) → IsSecondsText (Placed seconds) text → length seconds ≤ 2048 → length text ≤ max_evidence
placing_size seconds text is few =
    let pairs = pairs_of_seconds seconds in
    let count = pairs_length seconds is.0.0.0 in
    let lines : length (concat (map seconds_at_line pairs)) ≤ 45 * length pairs = lines_size IsLongPair seconds_at_line 45 at_line_size pairs (long_again seconds is.0.1) in
    let head : length (one_number (codes "placing ") (length pairs)) ≤ 19 = omega (arith, one_size (codes "placing ") (length pairs) (omega (arith, count, few))) in
    let body : length (concat (seconds_body_lines (Placed seconds))) ≤ 46099 = omega (arith, length-append (one_number (codes "placing ") (length pairs)) (concat (map seconds_at_line pairs)), head, lines, count, few) in
    omega (arith, text_size (Placed seconds) text 46099 is body)

cycle_size : (lines : List Line) (text : List ℕ) → IsSecondsText (Cycle lines) text → length lines ≤ 2049 → length text ≤ max_evidence
cycle_size lines text is few =
    let each_line : length (concat (map cycle_line lines)) ≤ 26 * length lines = lines_size HasLineNumbers cycle_line 26 cycle_line_size lines (recursion_from_All HasLineNumbers lines is.0.0) in
    let head : length (one_number (codes "cycle ") (length lines)) ≤ 17 = omega (arith, one_size (codes "cycle ") (length lines) is.0.1) in
    let body : length (concat (seconds_body_lines (Cycle lines))) ≤ 53291 = omega (arith, length-append (one_number (codes "cycle ") (length lines)) (concat (map cycle_line lines)), head, each_line, few) in
    omega (arith, text_size (Cycle lines) text 53291 is body)

-- what is printed of a net can be read again
pub printed_size : (timed : PlainTimed) (status : Status) (text : List ℕ) → IsTimed timed → OfTimed timed status text → length text ≤ max_evidence
printed_size timed Done text is shown = let net = is.net in let placed = shown.1 in placing_size shown.0 text shown.2 (omega (arith, placed.size, net.few_intervals))
printed_size timed Clash text is shown = let net = is.net in cycle_size shown.1 text shown.3 (omega (arith, shown.2.1, net.few_intervals))
printed_size timed status text is shown = absurd shown
