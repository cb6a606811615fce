-- The bytes that are written are those of the lines.
use Rattle.std.proofs.Common.{◌≡◌, [], ◌∷◌, refl}
use Rattle.std.specs.List.{concat}
use Rattle.line_texts.specs.Lines.{last_line}
use Rattle.line_texts.proofs.LineLaws.{concat_append, mapped}
use Rattle.seconds_core.specs.Evidence.{PlainSeconds, Placed, Cycle}
use Rattle.seconds_format.specs.Texts.{seconds_at_line, seconds_body_lines, cycle_line, pairs_of_seconds, seconds_text_lines}
use Rattle.seconds_format.specs.Written.{seconds_body_bytes, text_bytes}

-- what stands between the first line and the last one, joined
body_is : (e : PlainSeconds) → concat (seconds_body_lines e) ≡ seconds_body_bytes e
body_is (Placed seconds) = rw (mapped seconds_at_line (pairs_of_seconds seconds)) refl
body_is (Cycle lines) = rw (mapped cycle_line lines) refl

-- the lines of a text, joined
pub text_is : (e : PlainSeconds) → concat (seconds_text_lines e) ≡ text_bytes e
text_is e = rw (concat_append (seconds_body_lines e) (last_line ∷ []), body_is e) refl
