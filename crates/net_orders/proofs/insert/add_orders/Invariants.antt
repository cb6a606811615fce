use Rattle.std.proofs.Common.{get_or}
use Rattle.net_core.specs.Atoms.{Satisfies}
use Rattle.net_orders.specs.Steps.{AddsToTable}
use Rattle.net_orders.proofs.LinkAtoms.{no_atom}
use Rattle.net_orders.proofs.Steps.{Below}
use Rattle.net_orders.proofs.insert.add_orders.Given as goal

-- the orders so far are added
abbrev pub invariant-loop-order : goal.invariant-loop-order
invariant-loop-order l = AddsToTable (Below (λ k t. Satisfies t (get_or l.orders k no_atom)) l.order-index) l.fn.table l.table
