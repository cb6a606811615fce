-- What printed evidence shows of a net.
use Rattle.std.specs.Prelude.{ℕ, ◌*◌, ◌≤◌, List, length, map}
use Rattle.std.specs.List.{Contains}
use Rattle.net_core.specs.Least.{AreSpares}
use Rattle.evidence_check.specs.Claims.{ShowsTruth}
use Rattle.evidence_check.specs.Supported.{IsSupported}
use Rattle.evidence_format.specs.Bundles.{IsClaimText}
use Rattle.evidence_format.specs.Evidence.{PlainEvidence, clash}
use Rattle.net_core.specs.Entailment.{HasNoTimeline}
use Rattle.net_core.specs.Limits.{max_printed}
use Rattle.net_core.specs.Nets.{PlainNet, points}
use Rattle.net_core.specs.Ranks.{pairs_of}
use Rattle.net_core.specs.declared.step.Step.{Step}

-- the text is that of one claim that the net supports, and what it shows is true; it is short enough to be read again
abbrev pub ShowsEvidence : PlainNet → PlainEvidence → List ℕ → Type 0
ShowsEvidence net e text = IsClaimText e text × IsSupported net e × ShowsTruth net e × (length text ≤ max_printed)

-- A minimal clash, where no timeline fits: links that cannot all be true, a closed walk over exactly these, of at most twice as many steps as there are points, and for each of them the least ranks with which the others are true.
pub record ShowsClash (net : PlainNet) (text : List ℕ) : Type 0 where
  pub none : HasNoTimeline net
  pub cites : List ℕ
  pub walk : List Step
  pub spares : List (List ℕ)
  pub short : length walk ≤ 2 * points net
  pub least : AreSpares net (Contains cites) cites spares
  pub evidence : ShowsEvidence net (clash cites walk (map pairs_of spares)) text
