use Rattle.std.proofs.Common.{◌≡◌, ℕ, ◌<◌, length}
use Rattle.tml_score.specs.Scoring.{IsPartner, partner_at}
use Rattle.tml_score.proofs.scoring.partners_in.Given as goal

-- the partners of the intervals so far
abbrev pub invariant-loop-i : goal.invariant-loop-i
invariant-loop-i l = record {
  end : l.i-end ≡ length l.own.intervals;
  size : length l.partners.items ≡ l.i;
  each : (k : ℕ) → k < l.i → IsPartner l.own.intervals l.other.intervals k (partner_at l.partners.items k);
}
