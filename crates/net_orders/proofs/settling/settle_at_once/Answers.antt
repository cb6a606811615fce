use Rattle.std.proofs.Common.{◌↔◌, List, sym, subst}
use Rattle.net_core.specs.Ranks.{timeline_of}
use Rattle.net_core.specs.Relations.{Timeline}
use Rattle.net_core.specs.declared.atom.Atom.{Atom}
use Rattle.order_closure.specs.Tables.{SatisfiesAll}
use Rattle.net_orders.specs.Orders.{FitsBut}
use Rattle.net_orders.proofs.Rising.{rises_part}
use Rattle.net_orders.proofs.settling.settle_at_once.Goals as goal
use Rattle.net_orders.proofs.settling.settle_at_once.Goals.{After-raise_in_turns}

-- the orders that are left say what all but those of the link say
said : (c : After-raise_in_turns) (t : Timeline) → SatisfiesAll c.deref-3.result.now t ↔ FitsBut c.args.orders.now c.args.fixed.now c.args.omitted t
said c t = subst (λ (left : List Atom). SatisfiesAll left t ↔ FitsBut c.args.orders.now c.args.fixed.now c.args.omitted t) (sym c.deref-3.ensures.value) (c.in_ok-left.ensures.exact t)

pub returns-clause-rises : goal.returns-clause-rises
returns-clause-rises c =
    let here = (goal.at.returns-clause-rises c).After-raise_in_turns in
    rises_part (SatisfiesAll c.deref-3.result.now) (FitsBut c.args.orders.now c.args.fixed.now c.args.omitted) c.args.ranks.now c.raise_in_turns.new.ranks (λ t fits. (said here t).1 fits) c.raise_in_turns.ensures.rises

pub returns-clause-fits : goal.returns-clause-fits
returns-clause-fits c settled =
    let here = (goal.at.returns-clause-fits c).After-raise_in_turns in
    (said here (timeline_of c.raise_in_turns.new.ranks)).0 (c.raise_in_turns.ensures.fits settled)
