use Rattle.std.proofs.Common.{◌≡◌, rules}
use Rattle.std.proofs.lemmas.Fn.{always_returns_same}
use Rattle.order_closure.specs.Tables.{cell_at}
use Rattle.timeline.specs.declared.ranking.Counted.{Counted}
use Rattle.timeline.proofs.Turns.{counted_sorted, most_first}
use Rattle.timeline.proofs.ranking.in_turn.Goals as goal

pub returns-clause-counted : goal.returns-clause-counted
returns-clause-counted c = counted_sorted c.args.closed.now.points (cell_at c.args.closed.now) c.in_ok-turns.turns.items c.sort_unstable_by_key.new.self.items c.sort_unstable_by_key.ensures.permutation (search rules)

pub returns-clause-sorted : goal.returns-clause-sorted
returns-clause-sorted c = most_first c.sort_unstable_by_key.new.self.items
    (c.sort_unstable_by_key.ensures.sorted (λ (turn : Counted). record { 0 = turn.after }) (always_returns_same _ (λ a r. r ≡ record { 0 = a.0.now.after }) _ (λ a r f k. search rules)))
