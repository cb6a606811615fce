use Rattle.tml_score.specs.Search.{basis_of}
use Rattle.tml_score.specs.Tree.{IsTree}
use Rattle.tml_score.proofs.tree.Tree.leave_roots.Given as goal

abbrev pub invariant-loop-point : goal.invariant-loop-point
invariant-loop-point l = IsTree (basis_of l.kept) l.ties.roots.items l.fn.self.near l.self
