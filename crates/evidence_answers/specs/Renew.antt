-- The command `renew`: evidence of either version as a text of version 2.
use Rattle.std.specs.Prelude.{ℕ, List, [], ◌∷◌, codes}
use Rattle.evidence_format.specs.Bundles.{IsBundleText, IsTextOfEither}
use Rattle.evidence_format.specs.Evidence.{PlainEvidence}
use Rattle.runs.specs.OneFile.{Answers, of_one_file}
use Rattle.runs.specs.Rows.{NeverFree, Rows}
use Rattle.runs.specs.declared.status.Status.TheVariants.{Done, EvidenceFault}
use Rattle.evidence_answers.specs.Files.{ReportsEvidenceLine, evidence_file}
use Rattle.answers.specs.Commands.{Command, argument, command, of_files}
use Rattle.net_core.specs.Limits.{max_evidence}

-- the bytes are the text of some claims, in either version, and the text is theirs in version 2
abbrev pub IsRenewed : List ℕ → List ℕ → Type 0
IsRenewed bytes text = (es : List PlainEvidence) × IsTextOfEither es bytes × IsBundleText es text

-- the answer to evidence: its text of version 2, or its bad line
abbrev pub OfRenew : Answers
OfRenew bytes Done text = IsRenewed bytes text
OfRenew bytes EvidenceFault text = ReportsEvidenceLine bytes text
OfRenew bytes other text = ⊥

-- the rows of `renew EVIDENCE`
abbrev pub renew_rows : List ℕ → Rows
renew_rows name = of_one_file (evidence_file name) OfRenew

-- the command
abbrev pub renew : Command
renew = command (codes "renew") (codes "EVIDENCE" ∷ []) (of_files (max_evidence ∷ []) (λ given. renew_rows (argument given 0)) NeverFree)
