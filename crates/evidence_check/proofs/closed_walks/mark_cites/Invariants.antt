use Rattle.std.proofs.Common.{◌↔◌, ◌⊎◌, ℕ, ◌<◌, length, take}
use Rattle.std.specs.List.{Contains}
use Rattle.net_core.specs.Walks.{Kept}
use Rattle.evidence_check.proofs.closed_walks.mark_cites.Given as goal

-- the cites so far are marked, and the links that were
abbrev pub invariant-loop-cite : goal.invariant-loop-cite
invariant-loop-cite l = (k : ℕ) → k < length l.marks → Kept l.marks k ↔ (Kept l.initial.marks k ⊎ Contains (take l.cite-index l.cites) k)
