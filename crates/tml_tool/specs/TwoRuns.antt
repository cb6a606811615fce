-- Two runs: what is printed as evidence of a document, `verify` accepts.
use Rattle.std.specs.Prelude.{◌≡◌, ◌≢◌, ℕ, List, ◌∷◌, Some, ⊤}
use Rattle.evidence_answers.specs.Accepting.{AcceptsText}
use Rattle.evidence_answers.specs.Verify.{verify_rows}
use Rattle.score_answers.specs.Score.{key_clash}
use Rattle.tml_io.specs.Files.{Files, held}
use Rattle.runs.specs.Replies.{Replies}
use Rattle.runs.specs.declared.status.Status.{Status}
use Rattle.runs.specs.declared.status.Status.TheVariants.{Done, Clash}
use Rattle.tml_tool.specs.Commands.{rows_with}
use Rattle.tml_tool.specs.declared.commands.Form.{Form}
use Rattle.tml_tool.specs.declared.commands.Form.TheVariants.{Solve, Ask, Relations, Possible, Matrix, Reduce, Score}

-- evidence is printed where links of the document clash, by `solve`, and where it is asked whether a relation holds
abbrev pub PrintsEvidence : Form → Status → List ℕ → Type 0
PrintsEvidence Solve Done text = ⊤
PrintsEvidence Solve Clash text = ⊤
PrintsEvidence Ask Done text = ⊤
PrintsEvidence Ask Clash text = ⊤
PrintsEvidence Relations Clash text = ⊤
PrintsEvidence Possible Clash text = ⊤
PrintsEvidence Matrix Clash text = ⊤
PrintsEvidence Reduce Clash text = ⊤
PrintsEvidence Score Clash text = text ≢ key_clash
PrintsEvidence form status text = ⊥

-- where a run printed evidence of the document in one file, and another file holds what it printed, `verify` accepts it
abbrev pub EvidenceIsVerified : Type 0
EvidenceIsVerified = (files : Files) (form : Form) (name : List ℕ) (arguments : List (List ℕ)) (other text : List ℕ) (status : Status) (taken : ℕ)
    → PrintsEvidence form status text → Replies (Some files) (rows_with form (name ∷ arguments)) status text taken
    → held files other ≡ Some text → AcceptsText files (verify_rows name other) text
