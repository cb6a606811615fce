-- A text that is answered by Done is accepted.
use Rattle.std.proofs.Common.{◌≡◌, ◌≤◌, ◌+◌, ℕ, List, [], ◌∷◌, length, refl, Some, inl}
use Rattle.answers.specs.Documents.{doc_file}
use Rattle.answers.specs.Judged.{Judgements, judged_rows}
use Rattle.net_core.specs.Limits.{max_document, max_evidence}
use Rattle.tml_accept.specs.Acceptance.{Says}
use Rattle.tml_io.specs.Files.{Files, held}
use Rattle.tml_refs.specs.Documents.{PlainDocument}
use Rattle.runs.specs.OneReply.{HasOneNext}
use Rattle.runs.specs.Reading.{total_length}
use Rattle.runs.specs.Replies.{Replies}
use Rattle.runs.specs.Rows.{File}
use Rattle.runs.specs.declared.status.Status.TheVariants.{Done}
use Rattle.runs.proofs.OneReply.{one_reply}
use Rattle.evidence_answers.specs.Accepting.{AcceptsText}

-- Done is an answer to the text that the other file of an accepted document holds, so it is the one reply to a command that judges the document first
pub accepted : (files : Files) (name : List ℕ) (file : File) (Of : Judgements) (doc text line : List ℕ) (contents : PlainDocument) → HasOneNext (judged_rows name file Of)
    → held files name ≡ Some doc → length doc ≤ max_document → Says doc contents
    → held files file.name ≡ Some text → length text ≤ file.limit → length text ≤ max_evidence → Of contents text Done line → AcceptsText files (judged_rows name file Of) text
accepted files name file Of doc text line contents one holds short says holds_text few small answer =
    let rows = judged_rows name file Of in
    let reply : Replies (Some files) rows Done line (total_length (doc ∷ text ∷ []) + 0) = record {
      contents = doc ∷ text ∷ [];
      reading = (doc_file name, refl, (holds, short), (file, ((contents, says), refl), (holds_text, few), tt));
      part = 0;
      ends = inl ((contents, says, answer), refl);
      bytes = refl;
    } in
    record {
      short = small;
      done = (line, total_length (doc ∷ text ∷ []) + 0, reply);
      reply = λ status found taken whole h. (one_reply rows one files status Done found line taken (total_length (doc ∷ text ∷ []) + 0) whole refl h reply).one_status;
    }
