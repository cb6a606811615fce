use Rattle.std.proofs.Common.{◌∙◌}
use Rattle.tml_tree.specs.View.{tag_node}
use Rattle.tml_canon.proofs.canonical.canon.Goals as goal

pub returns : goal.returns
returns c = (tag_node c.root.result.now, c.root.ensures.tree, c.from_vec.ensures ∙ c.in_ok-text_of.ensures)
