-- What is printed is confirmed.
use Rattle.std.proofs.Common.{◌≡◌, ◌≤◌, ℕ, List, length, refl, Some, inl, inr}
use Rattle.answers.specs.Documents.{doc_file, of_contents}
use Rattle.evidence_answers.specs.ConfirmTexts.{seconds_claim_line}
use Rattle.evidence_answers.specs.Confirmed.{OfConfirm, OfText, seconds_file}
use Rattle.evidence_answers.proofs.Accepting.{accepted}
use Rattle.evidence_answers.proofs.ConfirmAnswered.{confirm_answered}
use Rattle.evidence_answers.proofs.Truth.{is_timed}
use Rattle.net_core.specs.Limits.{max_evidence}
use Rattle.seconds_build.specs.Built.{IsTimedOf}
use Rattle.seconds_core.specs.Evidence.{Placed, Cycle}
use Rattle.seconds_core.specs.Timed.{PlainTimed}
use Rattle.tml_accept.specs.Acceptance.{Says}
use Rattle.tml_io.specs.Files.{Files, held}
use Rattle.tml_refs.specs.Documents.{PlainDocument}
use Rattle.runs.specs.Replies.{Replies}
use Rattle.runs.specs.declared.status.Status.{Status}
use Rattle.runs.specs.declared.status.Status.TheVariants.{Clash, Done}
use Rattle.runs.proofs.OneFile.{answered_or_long}
use Rattle.seconds_answers.specs.Laws.{PrintsSeconds, SecondsAreConfirmed}
use Rattle.seconds_answers.specs.Seconds.{OfSeconds, OfTimed, seconds_rows}
use Rattle.seconds_answers.proofs.Sizes.{printed_size}

-- a text that shows a placing or a cycle is answered by what it shows
confirmed : (timed : PlainTimed) (status : Status) (text : List ℕ) → OfTimed timed status text → (line : List ℕ) × OfText timed text Done line
confirmed timed Done text h = (seconds_claim_line (Placed h.0), (Placed h.0, h.2, h.1, refl))
confirmed timed Clash text h = (seconds_claim_line (Cycle h.1), (Cycle h.1, h.3, h.2.0, refl))
confirmed timed status text h = absurd h

-- an accepted document in a file, with a text that shows a placing or a cycle of it
record HasShown (files : Files) (name : List ℕ) (status : Status) (text : List ℕ) : Type 0 where
  doc : List ℕ
  holds : held files name ≡ Some doc
  short : length doc ≤ (doc_file name).limit
  contents : PlainDocument
  says : Says doc contents
  timed : PlainTimed
  built : IsTimedOf contents timed
  shows : OfTimed timed status text

shown : (files : Files) (name text : List ℕ) (status : Status) (taken : ℕ) → PrintsSeconds status → Replies (Some files) (seconds_rows name) status text taken → HasShown files name status text
shown files name text Done taken prints h = elim (answered_or_long files (doc_file name) (of_contents OfSeconds) Done text taken refl h) [
  | inr long ↦ absurd (cc long)
  | inl (doc, holds, short, inl refused) ↦ absurd (cc refused.0)
  | inl (doc, holds, short, inr (contents, says, (timed, built, shows))) ↦ record { doc = doc; holds = holds; short = short; contents = contents; says = says; timed = timed; built = built; shows = shows }
]
shown files name text Clash taken prints h = elim (answered_or_long files (doc_file name) (of_contents OfSeconds) Clash text taken refl h) [
  | inr long ↦ absurd (cc long)
  | inl (doc, holds, short, inl refused) ↦ absurd (cc refused.0)
  | inl (doc, holds, short, inr (contents, says, (timed, built, shows))) ↦ record { doc = doc; holds = holds; short = short; contents = contents; says = says; timed = timed; built = built; shows = shows }
]
shown files name text status taken prints h = absurd prints

pub seconds_are_confirmed : SecondsAreConfirmed
seconds_are_confirmed = λ files name other text status taken prints h held_text.
    let found = shown files name text status taken prints h in
    let (line, answer) = confirmed found.timed status text found.shows in
    let few : length text ≤ max_evidence = printed_size found.timed status text (is_timed found.doc found.contents found.timed found.says found.built) found.shows in
    accepted files name (seconds_file other) OfConfirm found.doc text line found.contents (confirm_answered name other).one_next found.holds found.short found.says held_text few few (found.timed, found.built, answer)
