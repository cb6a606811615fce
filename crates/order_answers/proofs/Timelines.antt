-- The least timeline of a document, and its text.
use Rattle.std.proofs.Common.{◌≡◌, ◌≤◌, ℕ, List, length, sym, subst, ◌∙◌, arith}
use Rattle.net_core.specs.Fits.{Fits, RanksFit}
use Rattle.net_core.specs.Limits.{max_printed}
use Rattle.net_core.specs.Nets.{PlainNet, points}
use Rattle.net_core.specs.Ranks.{pairs_of, timeline_of}
use Rattle.net_core.specs.Relations.{Timeline}
use Rattle.net_core.proofs.RankLaws.{even_length, ranks_again}
use Rattle.clash.specs.Closures.{IsClosureOf}
use Rattle.evidence_check.specs.Supported.{IsSupported}
use Rattle.evidence_format.specs.Bundles.{IsClaimText}
use Rattle.evidence_format.specs.Evidence.{timeline}
use Rattle.order_closure.specs.Tables.{Keeps, Table}
use Rattle.order_closure.proofs.LeastRanks.{one_least_of}
use Rattle.net_core.specs.Least.{AreLeastRanks, IsLeast}
use Rattle.order_answers.specs.Solve.{IsLeastText, ShowsTimeline}

-- the least timeline that keeps the closure of a net is the least one that fits the net
pub least_fits : (net : PlainNet) (table : Table) (t : Timeline) → IsClosureOf net table → IsLeast table.points (Keeps table) t → IsLeast (points net) (Fits net) t
least_fits net table t c l = record {
  holds = (c.keeps t).0 l.holds;
  least = λ u fits p less. l.least u ((c.keeps u).1 fits) p (omega (arith, less, c.size));
}

-- ranks that fit are supported as evidence
pub timeline_supported : (net : PlainNet) (ranks : List ℕ) → RanksFit net ranks → IsSupported net (timeline (pairs_of ranks))
timeline_supported net ranks fit = subst (RanksFit net) (sym (ranks_again ranks (even_length (length net.bounds) ranks fit.0))) fit

-- the text of the least ranks that fit
pub shows_least : (net : PlainNet) (ranks text : List ℕ) → AreLeastRanks net ranks → IsClaimText (timeline (pairs_of ranks)) text → length text ≤ max_printed → ShowsTimeline net text
shows_least net ranks text (size, least) is short = (ranks, (size, least), (is, timeline_supported net ranks (size, least.holds), (timeline_of ranks, least.holds), short))

-- the text of the least timeline of the closure is that of the net
pub shows_timeline : (net : PlainNet) (table : Table) (text : List ℕ) → IsClosureOf net table → IsLeastText table text → ShowsTimeline net text
shows_timeline net table text c l = shows_least net l.0 text (l.1 ∙ c.size, least_fits net table (timeline_of l.0) c l.2) l.3 l.4

-- a net has one least timeline
pub one_least : (net : PlainNet) (a b : List ℕ) → AreLeastRanks net a → AreLeastRanks net b → a ≡ b
one_least net a b (la, h) (lb, k) = one_least_of (points net) (Fits net) a b la lb h k

-- and one text of it
pub one_timeline : (net : PlainNet) (text other : List ℕ) → ShowsTimeline net text → ShowsTimeline net other → text ≡ other
one_timeline net text other h k =
    let ranks = one_least net h.0 k.0 h.1 k.1 in
    let same = subst (λ (rs : List ℕ). IsClaimText (timeline (pairs_of rs)) text) ranks h.2.0 in
    same.1 ∙ sym k.2.0.1
