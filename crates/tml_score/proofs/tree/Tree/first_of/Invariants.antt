use Rattle.std.proofs.Common.{◌≡◌, ℕ, ◌<◌, false}
use Rattle.net_orders.specs.Orders.{is_of}
use Rattle.tml_score.specs.Tree.{order_at}
use Rattle.tml_score.proofs.tree.Tree.first_of.Given as goal

-- no order so far is of the link
abbrev pub invariant-loop-turn : goal.invariant-loop-turn
invariant-loop-turn l = (i : ℕ) → i < l.turn → is_of l.link (order_at l.self.orders.items i) ≡ false
