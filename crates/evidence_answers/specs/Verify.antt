-- The command `verify`: what evidence of a document shows.
use Rattle.std.specs.Prelude.{◌≡◌, ◌⊎◌, ℕ, List, [], ◌∷◌, codes}
use Rattle.std.specs.List.{All}
use Rattle.answers.specs.Judged.{Judgements, judged_rows}
use Rattle.evidence_check.specs.Bundles.{AreSupported, IsFirstRefused}
use Rattle.evidence_check.specs.Claims.{ShowsTruth}
use Rattle.evidence_check.specs.declared.refusal.RefusedClaim.{RefusedClaim}
use Rattle.evidence_format.specs.Bundles.{IsTextOfEither}
use Rattle.evidence_format.specs.Evidence.{PlainEvidence}
use Rattle.net_build.specs.Built.{IsNetOf}
use Rattle.net_core.specs.Nets.{PlainNet}
use Rattle.tml_refs.specs.Documents.{PlainDocument}
use Rattle.runs.specs.Rows.{NeverFree, Rows}
use Rattle.runs.specs.declared.status.Status.{Status}
use Rattle.runs.specs.declared.status.Status.TheVariants.{Done, EvidenceFault}
use Rattle.evidence_answers.specs.Files.{ReportsEvidenceLine, evidence_file}
use Rattle.evidence_answers.specs.Texts.{claim_lines, refusal_line}
use Rattle.answers.specs.Commands.{Command, argument, command, of_files}
use Rattle.net_core.specs.Limits.{max_document, max_evidence}

-- the bytes are the text of claims, in either version, the net supports each of them, what it shows is true, and the text says what that is, a line each
abbrev pub ReportsClaims : PlainDocument → PlainNet → List ℕ → List ℕ → Type 0
ReportsClaims contents net bytes text = (es : List PlainEvidence) × IsTextOfEither es bytes × AreSupported net es × All (ShowsTruth net) es × (text ≡ claim_lines contents es)

-- the bytes are the text of claims, one of them is the first that is refused, and the text reports which, the part and the reason
abbrev pub ReportsRefusal : PlainNet → List ℕ → List ℕ → Type 0
ReportsRefusal net bytes text = (es : List PlainEvidence) × (refused : RefusedClaim) × IsTextOfEither es bytes × IsFirstRefused net es refused × (text ≡ refusal_line refused)

-- the answer to evidence, by what its document says and its net
abbrev pub OfEvidence : PlainDocument → PlainNet → List ℕ → Status → List ℕ → Type 0
OfEvidence contents net bytes Done text = ReportsClaims contents net bytes text
OfEvidence contents net bytes EvidenceFault text = ReportsEvidenceLine bytes text ⊎ ReportsRefusal net bytes text
OfEvidence contents net bytes other text = ⊥

-- the answer to evidence of an accepted document
abbrev pub OfVerify : Judgements
OfVerify contents bytes status text = (net : PlainNet) × IsNetOf contents net × OfEvidence contents net bytes status text

-- the rows of `verify NAME EVIDENCE`
abbrev pub verify_rows : List ℕ → List ℕ → Rows
verify_rows name evidence = judged_rows name (evidence_file evidence) OfVerify

-- the command
abbrev pub verify : Command
verify = command (codes "verify") (codes "DOC" ∷ codes "EVIDENCE" ∷ []) (of_files (max_document ∷ max_evidence ∷ []) (λ given. verify_rows (argument given 0) (argument given 1)) NeverFree)
