use Rattle.order_closure.specs.Tables.{SatisfiesAll}
use Rattle.net_orders.specs.Steps.{AddsPart}
use Rattle.net_orders.proofs.insert.add_in_sequence.Given as goal

-- orders so far are added
abbrev pub invariant-loop-number : goal.invariant-loop-number
invariant-loop-number l = AddsPart (SatisfiesAll l.orders) l.fn.table l.table
