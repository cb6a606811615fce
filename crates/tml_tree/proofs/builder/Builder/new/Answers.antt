use Rattle.std.proofs.Common.{List, [], map, sym, subst}
use Rattle.tml_tree.specs.declared.builder.Frame.{Frame}
use Rattle.tml_tree.specs.declared.node.Node.{Node}
use Rattle.tml_tree.specs.Judging.{HavePassed}
use Rattle.tml_tree.specs.Rules.{History}
use Rattle.tml_tree.specs.View.{node_of}
use Rattle.tml_tree.specs.Building.{open_tags_of}
use Rattle.tml_tree.proofs.Passed.{passed_none}
use Rattle.tml_tree.proofs.builder.Builder.new.Goals as goal

pub returns : goal.returns
returns c =
    subst (λ (p : List Frame × List Node × History). HavePassed [] (open_tags_of p.0) (map node_of p.1) p.2)
    (λ i. (sym c.new-2.ensures.items i, sym c.new-3.ensures.items i, sym c.new.ensures i)) passed_none
