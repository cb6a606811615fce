-- Serves the code: claims of a text that are read one after another.
use Rattle.std.specs.Prelude.{◌≡◌, List, ◌++◌, Result, Ok}
use Rattle.evidence_format.specs.declared.unread.Unread.{Unread}
use Rattle.line_texts.specs.Lines.{Lines, lines_of}
use Rattle.evidence_format.specs.Evidence.{PlainEvidence}
use Rattle.line_texts.specs.Reading.{Read, ◌>>=◌, many_at, end_at}
use Rattle.evidence_format.specs.Readers.{body_at, bundle_at}

-- claims that were read, those that are still read, and the last line
abbrev pub all_of : List PlainEvidence → Read (List PlainEvidence) → Result (List PlainEvidence) Lines
all_of es read = do
  more ← read
  end ← end_at more.1
  Ok (es ++ more.0)

-- with what is left after these claims the whole text is read
abbrev pub HasReadClaims : List PlainEvidence → Unread → Type 0
HasReadClaims es unread = all_of es (many_at body_at unread.left (lines_of unread.rest.now)) ≡ bundle_at (lines_of unread.text.now)
