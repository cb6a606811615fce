use Rattle.tml_score.specs.Search.{basis_of}
use Rattle.tml_score.specs.Tree.{IsTree}
use Rattle.tml_score.proofs.tree.Tree.spread.Given as goal

abbrev pub invariant-loop-order : goal.invariant-loop-order
invariant-loop-order l = IsTree (basis_of l.kept) l.ties.roots.items l.fn.self.near l.self
