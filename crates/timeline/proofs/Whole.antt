-- The ranks of a table are its least timeline.
use Rattle.std.proofs.Common.{◌≡◌, ◌↔◌, ℕ, ◌<◌, List, get_or, sym, subst}
use Rattle.net_core.specs.Atoms.{Satisfies}
use Rattle.net_core.specs.Least.{IsLeast}
use Rattle.net_core.specs.Ranks.{timeline_of}
use Rattle.net_core.specs.Relations.{Timeline}
use Rattle.net_core.specs.declared.atom.Atom.{Atom}
use Rattle.order_closure.specs.Tables.{Table, Keeps, AreClosed, AreCellsKept}
use Rattle.order_closure.specs.Timelines.{opposite}
use Rattle.order_closure.specs.declared.cell.Cell.{Cell}
use Rattle.order_closure.proofs.LeastRanks.{opposite_is, same_least}
use Rattle.order_closure.proofs.Ranking.{ranks_kept, ranks_least, ranks_small}
use Rattle.timeline.specs.Ranking.{AreRanksOfCells}

module _ (n : ℕ) (cell : ℕ → ℕ → Cell) (t : List ℕ) (closed : AreClosed n cell) (ranks : AreRanksOfCells n cell t) where
  pub least_ranks : IsLeast n (AreCellsKept n cell) (timeline_of t)
  least_ranks = record {
    holds = ranks_kept n cell closed (timeline_of t) (λ r p lr lp. (ranks p lp).above r lr) (λ p m lp. (ranks p lp).least m);
    least = ranks_least n cell closed (timeline_of t) (λ r p lr lp. (ranks p lp).above r lr) (λ p m lp. (ranks p lp).least m);
  }

  pub small_ranks : (p : ℕ) → p < n → get_or t p 0 < n
  small_ranks = ranks_small n cell closed (timeline_of t) (λ r p lr lp. (ranks p lp).above r lr) (λ p m lp. (ranks p lp).least m)

-- the table with the opposite atom is kept by the timelines that keep the table and make the atom false
pub counter_least : (old new : Table) (atom other : Atom) (t : Timeline) → other ≡ opposite atom → new.points ≡ old.points → ((u : Timeline) → Keeps new u ↔ (Keeps old u × Satisfies u other))
    → IsLeast new.points (Keeps new) t → IsLeast old.points (λ u. Keeps old u × (Satisfies u atom → ⊥)) t
counter_least old new atom other t is points kept least =
    let same : (u : Timeline) → Satisfies u other ↔ (Satisfies u atom → ⊥) = subst (λ (a : Atom). (u : Timeline) → Satisfies u a ↔ (Satisfies u atom → ⊥)) (sym is) (opposite_is atom) in
    subst (λ (n : ℕ). IsLeast n (λ u. Keeps old u × (Satisfies u atom → ⊥)) t) points
    (same_least new.points (Keeps new) (λ u. Keeps old u × (Satisfies u atom → ⊥)) t (λ u. (
      λ k. let both = (kept u).0 k in (both.0, (same u).0 both.1),
      λ both. (kept u).1 (both.0, (same u).1 both.1),
    )) least)
