-- Serves the code: following steps from a point.
use Rattle.std.specs.Prelude.{◌≡◌, ℕ, ◌+◌, ◌<◌, List, length, take}
use Rattle.net_core.specs.Fits.{EveryLink}
use Rattle.net_core.specs.Nets.{PlainNet}
use Rattle.net_core.specs.Steps.{has_strict}
use Rattle.net_core.specs.Walks.{IsJoined}
use Rattle.net_core.specs.declared.step.Step.{Step}
use Rattle.evidence_check.specs.Refusals.{StepsGoFrom}
use Rattle.evidence_check.specs.declared.walks.WalkEnd.{WalkEnd}

-- the steps are joined from a point to this one, and one of them is strict where that is said
abbrev pub StepsLeadTo : PlainNet → ℕ → List Step → WalkEnd → Type 0
StepsLeadTo net from steps reached = IsJoined net EveryLink steps from reached.at × (reached.strict ≡ has_strict net steps)

-- step k is the first that does not go on
abbrev pub StepsStopAt : PlainNet → ℕ → List Step → ℕ → Type 0
StepsStopAt net from steps k = (k < length steps) × StepsGoFrom net from (take k steps) × (StepsGoFrom net from (take (k + 1) steps) → ⊥)
