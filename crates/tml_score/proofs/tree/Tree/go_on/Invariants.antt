use Rattle.tml_score.specs.Search.{basis_of}
use Rattle.tml_score.specs.Tree.{IsTree}
use Rattle.tml_score.proofs.tree.Tree.go_on.Given as goal

abbrev pub invariant-loop-turn : goal.invariant-loop-turn
invariant-loop-turn l = IsTree (basis_of l.kept) l.ties.roots.items l.fn.self.near l.self
