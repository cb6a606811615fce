-- What some claims show of a document.
use Rattle.std.specs.Prelude.{◌≡◌, List, ℕ, Option, Some, None}
use Rattle.evidence_check.specs.Bundles.{AreSupported, IsFirstRefused}
use Rattle.evidence_check.specs.declared.refusal.RefusedClaim.{RefusedClaim}
use Rattle.evidence_format.specs.Evidence.{PlainEvidence}
use Rattle.net_core.specs.Nets.{PlainNet}
use Rattle.tml_refs.specs.Documents.{PlainDocument}
use Rattle.evidence_answers.specs.Texts.{claim_lines}
use Rattle.evidence_answers.specs.declared.judged.Judged.{Judged}

-- the net supports each claim, and the lines say what they show; or a claim is the first that is refused
abbrev pub AreJudged : PlainDocument → PlainNet → List PlainEvidence → List ℕ → Option RefusedClaim → Type 0
AreJudged contents net es lines None = AreSupported net es × (lines ≡ claim_lines contents es)
AreJudged contents net es lines (Some refused) = IsFirstRefused net es refused

-- so these claims were judged
abbrev pub IsJudged : PlainDocument → PlainNet → List PlainEvidence → Judged → Type 0
IsJudged contents net es judged = AreJudged contents net es judged.lines.items judged.refused
