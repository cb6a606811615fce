use Rattle.tml_score.specs.Search.{basis_of}
use Rattle.tml_score.specs.Ties.{AreOrders}
use Rattle.tml_score.proofs.ties.ties_of.Given as goal

-- those so far are orders of the net
abbrev pub invariant-loop-order : goal.invariant-loop-order
invariant-loop-order l = AreOrders (basis_of l.kept) l.ties.items
