use Rattle.std.proofs.Common.{◌≡◌, ℕ, ◌+◌, ◌<◌, List, [], ◌∷◌, ◌++◌, sym, subst, ◌∙◌, arith, rules}
use Rattle.std.specs.List.{All, Contains}
use Rattle.order_closure.specs.Tables.{cell_at}
use Rattle.timeline.specs.Ranking.{IsCounted, counted_at}
use Rattle.timeline.specs.declared.ranking.Counted.{Counted}
use Rattle.timeline.proofs.Turns.{counted_more}
use Rattle.timeline.proofs.ranking.count_all.Goals as goal

pub loop-point-preserved : goal.loop-point-preserved
loop-point-preserved c =
    let n = c.args.closed.now.points in
    let cell = cell_at c.args.closed.now in
    let p = c.loop-point.point in
    let old = c.loop-point.invariant in
    let lt : p < n = omega (arith, old.end) in
    let pushed : c.push.new.self.items ≡ c.loop-point.all.items ++ record { after = c.count_after-after.result; point = p } ∷ [] = search rules in
    let all : c.push.new.self.items ≡ c.loop-point.all.items ++ counted_at n cell p ∷ [] = pushed ∙ (λ i. c.loop-point.all.items ++ record { after = c.count_after-after.ensures i; point = p } ∷ []) in
    let more = counted_more n p cell c.loop-point.all.items lt old.right old.whole in
    record {
      end = old.end;
      right = subst (λ (turns : List Counted). All (IsCounted n cell) turns) (sym all) more.0;
      whole = subst (λ (turns : List Counted). (q : ℕ) → q < p + 1 → Contains turns (counted_at n cell q)) (sym all) more.1;
    }
