-- What the answers to a document have, so that the rows of a command are answered.
use Rattle.std.specs.Prelude.{⊤, ℕ, List}
use Rattle.tml_accept.specs.Acceptance.{Says}
use Rattle.tml_refs.specs.Documents.{PlainDocument}
use Rattle.runs.specs.declared.status.Status.{Status}
use Rattle.runs.proofs.Answering.{IsAnswered}
use Rattle.answers.specs.Documents.{Contents}
use Rattle.answers.specs.Judged.{Judgements}

-- what an accepted document says has an answer
abbrev pub ContentsAreAnswered : Contents → (PlainDocument → Status → Type 0) → Type 0
ContentsAreAnswered Of IsFree = (doc : List ℕ) (contents : PlainDocument) → Says doc contents → IsAnswered ⊤ (Of contents) (IsFree contents)

-- and each other file has one by what an accepted document says
abbrev pub IsAnsweredByDocument : Judgements → (PlainDocument → List ℕ → Status → Type 0) → Type 0
IsAnsweredByDocument Of IsFree = (doc : List ℕ) (contents : PlainDocument) → Says doc contents → (bytes : List ℕ) → IsAnswered ⊤ (Of contents bytes) (IsFree contents bytes)
