use Rattle.std.proofs.Common.{◌↔◌, ◌⊎◌, ℕ, ◌<◌, length, take}
use Rattle.net_core.specs.Walks.{GoesOver, Kept}
use Rattle.net_core.proofs.marks.mark_steps.Given as goal

-- the links of the steps so far are marked, and those that were
abbrev pub invariant-loop-step : goal.invariant-loop-step
invariant-loop-step l = (k : ℕ) → k < length l.marks → Kept l.marks k ↔ (Kept l.initial.marks k ⊎ GoesOver (take l.step-index l.steps) k)
