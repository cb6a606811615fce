use Rattle.std.proofs.Common.{◌≡◌, ℕ, ◌<◌, length, map}
use Rattle.net_core.specs.Ranks.{pairs_of}
use Rattle.evidence_check.specs.Refusals.{IsSpareAt}
use Rattle.evidence_check.specs.Spares.{spares_of}
use Rattle.evidence_check.proofs.checker.check_spares.Given as goal

-- the timelines so far fit with the other cited links
abbrev pub invariant-loop-i : goal.invariant-loop-i
invariant-loop-i l = record {
  end : l.i-end ≡ length l.cites;
  so_far : (j : ℕ) → j < l.i → IsSpareAt l.net l.cites (map pairs_of (spares_of l.spares)) j;
}
