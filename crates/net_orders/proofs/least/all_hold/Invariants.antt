use Rattle.std.proofs.Common.{get_or}
use Rattle.net_core.specs.Atoms.{Satisfies}
use Rattle.net_core.specs.Ranks.{timeline_of}
use Rattle.net_orders.proofs.LinkAtoms.{no_atom}
use Rattle.net_orders.proofs.Steps.{Below}
use Rattle.net_orders.proofs.least.all_hold.Given as goal

-- the orders so far hold
abbrev pub invariant-loop-order : goal.invariant-loop-order
invariant-loop-order l = Below (λ k t. Satisfies t (get_or l.orders k no_atom)) l.order-index (timeline_of l.ranks)
