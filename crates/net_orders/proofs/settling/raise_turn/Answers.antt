use Rattle.std.proofs.Common.{List, drop, subst, take}
use Rattle.net_orders.specs.Orders.{AllAreTrueBut}
use Rattle.net_orders.specs.Raising.{RisesUntil}
use Rattle.net_orders.specs.declared.orders.Order.{Order}
use Rattle.net_orders.proofs.Settled.{cut_orders, rose}
use Rattle.net_orders.proofs.settling.raise_turn.Goals as goal
use Rattle.net_orders.proofs.settling.raise_turn.Goals.{then-forward, else-forward}

pub returns : goal.returns
returns c =
    let orders = c.args.orders.now in
    let fixed = c.args.fixed.now in
    let omitted = c.args.omitted in
    let place = c.args.place in
    let start = c.args.ranks.now in
    let end = c.raise_all.new.ranks in
    let first = c.split_at.ensures.front in
    let last = c.split_at.ensures.back in
    elim c.if-forward.branch [
      | then-forward w ↦
          let mid = w.raise_orders.new.ranks in
          let next = w.raise_orders-then-forward.new.ranks in
          rose omitted orders (drop place orders) (take place orders) fixed start mid next end
          (λ t. let cut = cut_orders place omitted orders t in (λ all. let both = cut.0 all in (both.1, both.0), λ both. cut.1 (both.1, both.0)))
          (subst (λ (xs : List Order). RisesUntil (AllAreTrueBut omitted xs) start mid) last w.raise_orders.ensures)
          (subst (λ (xs : List Order). RisesUntil (AllAreTrueBut omitted xs) mid next) first w.raise_orders-then-forward.ensures)
          (rw (← w.ranks-is) c.raise_all.ensures)
      | else-forward w ↦
          let mid = w.raise_orders_back.new.ranks in
          let next = w.raise_orders_back-else-forward.new.ranks in
          rose omitted orders (take place orders) (drop place orders) fixed start mid next end (cut_orders place omitted orders)
          (subst (λ (xs : List Order). RisesUntil (AllAreTrueBut omitted xs) start mid) first w.raise_orders_back.ensures)
          (subst (λ (xs : List Order). RisesUntil (AllAreTrueBut omitted xs) mid next) last w.raise_orders_back-else-forward.ensures)
          (rw (← w.ranks-is) c.raise_all.ensures)
    ]
