-- A closed walk over links that are all needed, with a spare for each, is a minimal clash that proves itself.
use Rattle.std.proofs.Common.{◌↔◌, ℕ, ◌*◌, ◌<◌, ◌≤◌, List, [], slice_index, slice_index_or, length}
use Rattle.std.specs.List.{Contains}
use Rattle.std.specs.List.Sorted.{IsStrictlyIncreasing}
use Rattle.std.proofs.lemmas.List.Elements.{All-contains_itself, All-weaker}
use Rattle.net_core.specs.Clashes.{Others}
use Rattle.net_core.specs.Fits.{EveryLink, FitsWith}
use Rattle.net_core.specs.Nets.{PlainNet, points}
use Rattle.net_core.specs.Walks.{GoesOver, IsClosedWalk, Kept}
use Rattle.net_core.specs.declared.step.Step.{Step}
use Rattle.net_core.proofs.StepLaws.{fits_fewer}
use Rattle.net_core.proofs.WalkLaws.{over_links, closed_walk_clashes, closed_walk_more}
use Rattle.net_core.specs.Least.{AreSpares, IsSpare}
use Rattle.order_closure.proofs.LeastRanks.{same_ranks}
use Rattle.clash.specs.Minimal.{IsProvedClash, IsMarkedWalk, IsSpared}
use Rattle.clash.specs.declared.closed_walk.ClosedWalk.{ClosedWalk}
use Rattle.clash.proofs.ClosedWalks.{goes_over, spared_fewer}

module _ (net : PlainNet) (cites : List ℕ) (Over : ℕ → Type 0) (walk : List Step) (goes : IsClosedWalk net Over walk) (over : (k : ℕ) → k < length net.links → Over k ↔ GoesOver walk k) (short : length walk ≤ 2 * points net)
    (exact : (k : ℕ) → Contains cites k ↔ Over k) (needed : (k : ℕ) → Over k → IsSpared net Over k) where
  cited : (k : ℕ) → Over k → Contains cites k
  cited k = (exact k).1

  -- a link of the walk is one of the net
  over_below : (k : ℕ) → Over k → k < length net.links
  over_below k is_over = over_links net Over walk goes.0 goes.0 k goes.1.0 (goes_over net Over k walk (needed k is_over) goes)

  -- ranks that are the least with the others of the links of the walk are so with the others that are cited
  spare_cited : (k : ℕ) (ranks : List ℕ) → IsSpare net Over k ranks → IsSpare net (Contains cites) k ranks
  spare_cited k ranks spare = same_ranks (points net) (FitsWith net (Others Over k)) (FitsWith net (Others (Contains cites) k)) ranks (λ t. (
    fits_fewer net (Others Over k) (Others (Contains cites) k) t (λ j below other. ((exact j).0 other.0, other.1)),
    fits_fewer net (Others (Contains cites) k) (Others Over k) t (λ j below other. (cited j other.0, other.1)),
  )) spare

  pub proved_links : (spares : List (List ℕ)) → IsStrictlyIncreasing cites → AreSpares net Over cites spares → IsProvedClash net (record { cites = cites; walk = walk; spares = spares })
  proved_links spares rising are = record {
    rising = rising;
    minimal = record {
      links = All-weaker (Contains cites) (λ k. k < length net.links) (λ k has. over_below k ((exact k).0 has)) cites (All-contains_itself cites);
      clashes = λ t fits. closed_walk_clashes net Over walk goes t (fits_fewer net (Contains cites) Over t (λ k below is_over. cited k is_over) fits);
      needed = All-weaker (Contains cites) (λ k. IsSpared net (Contains cites) k) (λ k has. spared_fewer net Over (Contains cites) k (λ j has. (exact j).0 has) (needed k ((exact k).0 has))) cites (All-contains_itself cites);
    };
    closed = (
      closed_walk_more net Over EveryLink walk (λ k is_over. tt) goes,
      λ k below. (λ gone. cited k ((over k below).1 gone), λ has. (over k below).0 ((exact k).0 has)),
    );
    short = short;
    spares = (are.0, λ i below. spare_cited (slice_index cites i) (slice_index_or spares i []) (are.1 i below));
  }

-- the same of a closed walk and its marks
pub proved_clash : (net : PlainNet) (cites : List ℕ) (closed : ClosedWalk) → IsMarkedWalk net closed → ((k : ℕ) → Contains cites k ↔ Kept closed.over.items k) → ((k : ℕ) → Kept closed.over.items k → IsSpared net (Kept closed.over.items) k)
    → (spares : List (List ℕ)) → IsStrictlyIncreasing cites → AreSpares net (Kept closed.over.items) cites spares → IsProvedClash net (record { cites = cites; walk = closed.walk; spares = spares })
proved_clash net cites closed is exact needed = proved_links net cites (Kept closed.over.items) closed.walk is.goes is.over is.short exact needed
