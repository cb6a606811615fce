use Rattle.std.proofs.Common.{◌≡◌, ℕ, List, map, ap, subst, sym, ◌∙◌}
use Rattle.tml_span.specs.Units.{PlainUnit}
use Rattle.tml_span.specs.View.{unit_of}
use Rattle.tml_tree.specs.Trees.{Document}
use Rattle.tml_tree.specs.View.{tag_node}
use Rattle.tml_tree.specs.Whole.{IsTreeOf}
use Rattle.tml_tree.proofs.tag_tree.tree.Goals as goal

pub invariant_of-result : goal.invariant_of-result
invariant_of-result c =
    let units : map unit_of c.into_vec.result.items ≡ c.args.units.units = ap (λ (us : List _). map unit_of us) c.into_vec.ensures ∙ c.into_list.ensures.units in
    let document = subst (λ (us : List PlainUnit). Document (tag_node c.in_ok-root.root) us) units c.in_ok-root.ensures.ok in
    subst (λ (s : List ℕ). IsTreeOf s (tag_node c.in_ok-root.root)) (sym c.source-source.ensures.source) (c.args.units.units, c.into_list.ensures.whole, document)
