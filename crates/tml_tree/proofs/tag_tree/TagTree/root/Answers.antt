use Rattle.std.proofs.Common.{ℕ, List, subst}
use Rattle.tml_tree.specs.Places.{IsLaidOut}
use Rattle.tml_tree.specs.View.{tag_node}
use Rattle.tml_tree.proofs.LaidOut.{tree_is_laid_out}
use Rattle.tml_tree.proofs.tag_tree.TagTree.root.Goals as goal

pub returns-clause-layout : goal.returns-clause-layout
returns-clause-layout c = subst (λ (s : List ℕ). IsLaidOut s (tag_node c.self.inside.root)) c.self.view_is (tree_is_laid_out c.self.inside.source.now (tag_node c.self.inside.root) c.self.invariant)
