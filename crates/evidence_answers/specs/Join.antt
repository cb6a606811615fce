-- The command `join`: the claims of two files of evidence as one text.
use Rattle.std.specs.Prelude.{◌≡◌, ℕ, List, ◌++◌, codes, [], ◌∷◌}
use Rattle.evidence_format.specs.Bundles.{IsBundleText, IsTextOfEither}
use Rattle.evidence_format.specs.Evidence.{PlainEvidence}
use Rattle.runs.specs.OneFile.{Answers}
use Rattle.runs.specs.Rows.{NeverFree, Rows}
use Rattle.runs.specs.TwoFiles.{Judging, of_two_files}
use Rattle.runs.specs.declared.status.Status.TheVariants.{Done, EvidenceFault}
use Rattle.evidence_answers.specs.Files.{ReportsEvidenceLine, ReportsLine, evidence_file, second_file}
use Rattle.answers.specs.Commands.{Command, argument, command, of_files}
use Rattle.net_core.specs.Limits.{max_evidence}

-- malformed evidence is refused by its bad line
abbrev pub IsMalformed : Answers
IsMalformed bytes status text = (status ≡ EvidenceFault) × ReportsEvidenceLine bytes text

-- evidence says its claims, or is malformed
abbrev pub evidence : Judging (List PlainEvidence)
evidence = record { Says = λ bytes es. IsTextOfEither es bytes; IsRefused = IsMalformed }

-- the second file is the text of some claims, in either version, and the text is that of version 2 of the claims of the first file and then of these
abbrev pub IsJoinText : List PlainEvidence → List ℕ → List ℕ → Type 0
IsJoinText es bytes text = (more : List PlainEvidence) × IsTextOfEither more bytes × IsBundleText (es ++ more) text

-- the answer to the second file, by the claims of the first one: all claims in order, or its bad line
abbrev pub OfSecond : List PlainEvidence → Answers
OfSecond es bytes Done text = IsJoinText es bytes text
OfSecond es bytes EvidenceFault text = ReportsLine (codes "second line ") bytes text
OfSecond es bytes other text = ⊥

-- the rows of `join EVIDENCE SECOND`
abbrev pub join_rows : List ℕ → List ℕ → Rows
join_rows name other = of_two_files evidence (evidence_file name) (second_file other) OfSecond

-- the command
abbrev pub join : Command
join = command (codes "join") (codes "EVIDENCE" ∷ codes "SECOND" ∷ []) (of_files (max_evidence ∷ max_evidence ∷ []) (λ given. join_rows (argument given 0) (argument given 1)) NeverFree)
