-- What is read of whole texts.
use Rattle.std.proofs.Common.{◌≡◌, ℕ, List}
use Rattle.line_texts.proofs.Reading.{Texts, one_line, one_of_texts, own_texts, text_or_bad_line}
use Rattle.seconds_core.specs.Evidence.{PlainSeconds}
use Rattle.seconds_format.specs.Begun.{HasSecondsLines, IsBadSecondsLine, IsBegunSeconds, SecondsTextOrBadLine}
use Rattle.seconds_format.specs.Readers.{seconds_at}
use Rattle.seconds_format.specs.Texts.{IsSecondsText, IsWellFormedSeconds, seconds_text_lines}
use Rattle.seconds_format.proofs.BodyLaws.{exact_text, seconds_is, text_at}
use Rattle.seconds_format.proofs.LineLaws.{text_is}

-- evidence and its texts
pub texts : Texts IsSecondsText IsBegunSeconds HasSecondsLines text_at seconds_at
texts = own_texts IsWellFormedSeconds seconds_text_lines text_at seconds_at exact_text seconds_is text_is

-- a text is that of one value at most
pub one_value : (d e : PlainSeconds) (text : List ℕ) → IsSecondsText d text → IsSecondsText e text → d ≡ e
one_value d e text h k = one_of_texts texts d e text h k

-- a text has one bad line at most
pub one_bad : (text : List ℕ) (m n : ℕ) → IsBadSecondsLine text m → IsBadSecondsLine text n → m ≡ n
one_bad text m n h k = one_line texts text m n h k

-- every text is that of some evidence, or has a bad line
pub every_text : (text : List ℕ) → SecondsTextOrBadLine text
every_text text = text_or_bad_line texts text
