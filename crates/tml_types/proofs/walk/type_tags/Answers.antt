use Rattle.std.proofs.lemmas.Result.{err_from_is_err_and}
use Rattle.tml_tree.specs.View.{tag_node}
use Rattle.tml_types.proofs.Rising.{tree_least, tree_placed}
use Rattle.tml_types.proofs.walk.type_tags.Goals as goal

pub returns-in_err-type_tag-clause-err : goal.returns-in_err-type_tag-clause-err
returns-in_err-type_tag-clause-err c =
    let p = err_from_is_err_and c.from_residual.result c.from_residual.ensures.1 in
    rw (p.1, p.2) (tag_node c.root.result.now, c.root.ensures.tree, c.in_err-type_tag.ensures.err)

pub returns-in_err-type_tag-clause-least : goal.returns-in_err-type_tag-clause-least
returns-in_err-type_tag-clause-least c =
    let p = err_from_is_err_and c.from_residual.result c.from_residual.ensures.1 in
    rw (p.1, p.2) (tag_node c.root.result.now, c.root.ensures.tree, tree_least c.args.tree.now _ _ c.root.ensures.tree c.in_err-type_tag.ensures.err)

pub returns-clause-ok : goal.returns-clause-ok
returns-clause-ok c =
    let added = c.in_ok-type_tag.ensures.ok in
    (tag_node c.root.result.now, c.root.ensures.tree, rw (c.new.ensures, added.3, c.new-typed.ensures) added.1)

pub new-requires : goal.new-requires
new-requires c =
    let added = c.in_ok-type_tag.ensures.ok in
    rw (added.3, c.new-typed.ensures) (tree_placed c.args.tree.now _ _ c.root.ensures.tree added.1.typed_tags added.2)
