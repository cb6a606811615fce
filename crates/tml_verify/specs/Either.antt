-- A file that is evidence of a document or seconds: which of the two, and how it is answered.
use Rattle.std.specs.Prelude.{ℕ, Bool, MatchBool, List, nat_eq}
use Rattle.std.specs.List.{starts_with}
use Rattle.answers.specs.Judged.{Judgements, judged_rows}
use Rattle.evidence_answers.specs.Confirmed.{OfConfirm}
use Rattle.evidence_answers.specs.Files.{evidence_file}
use Rattle.evidence_answers.specs.Verify.{OfVerify}
use Rattle.seconds_format.specs.Texts.{seconds_first_line}
use Rattle.runs.specs.Rows.{Rows}

-- it is seconds where its bytes begin with the first line of seconds
abbrev pub is_seconds : List ℕ → Bool
is_seconds bytes = starts_with nat_eq bytes seconds_first_line

-- if it is seconds then the answer is that of `confirm`, and else that of `verify`
abbrev pub OfEither : Judgements
OfEither contents bytes status text = MatchBool (is_seconds bytes) (OfConfirm contents bytes status text) (OfVerify contents bytes status text)

-- The rows of a document and such a file. One that is too long is `too long EVIDENCE`, whatever its first line: that is judged only of a file that is read whole.
abbrev pub either_rows : List ℕ → List ℕ → Rows
either_rows doc other = judged_rows doc (evidence_file other) OfEither
