-- When several claims are supported, and which of them is refused first.
use Rattle.std.specs.Prelude.{◌≡◌, ◌⊎◌, ℕ, List, [], length, slice_index_or, Some}
use Rattle.std.specs.List.{All}
use Rattle.net_core.specs.Firsts.{IsFirst}
use Rattle.net_core.specs.Nets.{PlainNet}
use Rattle.evidence_format.specs.Evidence.{IsWellFormed, PlainEvidence, timeline}
use Rattle.evidence_check.specs.declared.refusal.RefusedClaim.{RefusedClaim}
use Rattle.evidence_check.specs.Supported.{IsSupported}
use Rattle.evidence_check.specs.Refusals.{IsRefused}

-- the evidence of a claim, by its number from 0
abbrev pub claim_at : List PlainEvidence → ℕ → PlainEvidence
claim_at es k = slice_index_or es k (timeline [])

-- the claim of a number is supported
abbrev pub IsSupportedAt : PlainNet → List PlainEvidence → ℕ → Type 0
IsSupportedAt net es k = IsSupported net (claim_at es k)

-- each claim is supported
abbrev pub AreSupported : PlainNet → List PlainEvidence → Type 0
AreSupported net es = All (IsSupported net) es

-- the least number of a claim that is not supported, and why its evidence is refused
abbrev pub IsFirstRefused : PlainNet → List PlainEvidence → RefusedClaim → Type 0
IsFirstRefused net es refused = IsFirst (length es) (IsSupportedAt net es) (Some refused.claim) × IsRefused net (claim_at es refused.claim) refused.refused

-- the law: claims are not both all supported and refused; one of them at most is refused first, and for one reason; and where they are well formed they are one of both
pub record BundleVerdicts (net : PlainNet) (es : List PlainEvidence) : Type 0 where
  pub not_both : (refused : RefusedClaim) → AreSupported net es → IsFirstRefused net es refused → ⊥
  pub one_refusal : (refused other : RefusedClaim) → IsFirstRefused net es refused → IsFirstRefused net es other → refused ≡ other
  pub supported_or_refused : All IsWellFormed es → AreSupported net es ⊎ ((refused : RefusedClaim) × IsFirstRefused net es refused)

abbrev pub OneBundleVerdict : Type 0
OneBundleVerdict = (net : PlainNet) (es : List PlainEvidence) → BundleVerdicts net es
