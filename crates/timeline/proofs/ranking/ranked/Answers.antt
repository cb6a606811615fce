use Rattle.std.proofs.Common.{◌≡◌, ℕ, ◌<◌, List, get_or, length, sym, subst, arith}
use Rattle.std.specs.Vec.{with_items}
use Rattle.std.proofs.lemmas.List.{with_items_is}
use Rattle.net_core.specs.Least.{IsLeast}
use Rattle.net_core.specs.Ranks.{timeline_of}
use Rattle.order_closure.specs.Tables.{Keeps, cell_at}
use Rattle.timeline.proofs.Whole.{least_ranks, small_ranks}
use Rattle.timeline.proofs.ranking.ranked.Goals as goal
use Rattle.timeline.proofs.ranking.ranked.Goals.{After-rank_all}

items : (c : After-rank_all) → (with_items c.in_ok-ranks.ranks c.rank_all.new.ranks).items ≡ c.rank_all.new.ranks
items c = let same : length c.rank_all.new.ranks ≡ c.in_ok-ranks.ranks.len = omega arith in with_items_is c.in_ok-ranks.ranks c.rank_all.new.ranks same

pub returns-clause-least : goal.returns-clause-least
returns-clause-least c =
    let a = (goal.at.returns-clause-least c).After-rank_all in
    let n = c.args.closed.now.points in
    subst (λ (t : List ℕ). IsLeast n (Keeps c.args.closed.now) (timeline_of t)) (sym (items a)) (least_ranks n (cell_at c.args.closed.now) c.rank_all.new.ranks c.points.ensures.closed c.rank_all.ensures)

pub returns-clause-small : goal.returns-clause-small
returns-clause-small c =
    let a = (goal.at.returns-clause-small c).After-rank_all in
    let n = c.args.closed.now.points in
    subst (λ (t : List ℕ). (p : ℕ) → p < n → get_or t p 0 < n) (sym (items a)) (small_ranks n (cell_at c.args.closed.now) c.rank_all.new.ranks c.points.ensures.closed c.rank_all.ensures)
