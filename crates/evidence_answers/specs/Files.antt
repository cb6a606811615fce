-- Files of evidence, and those that are malformed.
use Rattle.std.specs.Prelude.{◌≡◌, ℕ, List, codes}
use Rattle.evidence_format.specs.Bundles.{IsBadLineOfEither, IsTextOfEither}
use Rattle.evidence_format.specs.Evidence.{PlainEvidence}
use Rattle.net_core.specs.Limits.{max_evidence}
use Rattle.runs.specs.Rows.{File}
use Rattle.answers.specs.Lines.{numbered}

-- the file of a name that is read as evidence
abbrev pub evidence_file : List ℕ → File
evidence_file name = record { name = name; word = codes "EVIDENCE"; limit = max_evidence }

-- the file of a name that is read as the second of two
abbrev pub second_file : List ℕ → File
second_file name = record { name = name; word = codes "SECOND"; limit = max_evidence }

-- the bytes are the text of no claims, of neither version, and the text reports the bad line after some words
abbrev pub ReportsLine : List ℕ → List ℕ → List ℕ → Type 0
ReportsLine words bytes text = ((es : List PlainEvidence) → IsTextOfEither es bytes → ⊥) × (line : ℕ) × IsBadLineOfEither bytes line × (text ≡ numbered words line)

-- the bad line of evidence is reported
abbrev pub ReportsEvidenceLine : List ℕ → List ℕ → Type 0
ReportsEvidenceLine = ReportsLine (codes "evidence line ")
