use Rattle.std.proofs.Common.{◌∷◌, [], ◌++◌, map, refl, ◌∙◌, arith}
use Rattle.std.proofs.lemmas.Grind.{common_steps}
use Rattle.std.proofs.lemmas.List.Elements.{All-nil}
use Rattle.std.proofs.lemmas.Result.{err_from_is_err_and}
use Rattle.tml_span.specs.View.{attribute_of}
use Rattle.tml_tree.specs.View.{node_of}
use Rattle.tml_tree.specs.Walking.{elements}
use Rattle.tml_types.specs.Walking.{tag_at}
use Rattle.tml_types.specs.Rules.{BreaksNoTagRule}
use Rattle.tml_types.proofs.OneTag.{adds_none, adds_one}
use Rattle.tml_types.proofs.Walks.{adds_more, fault_of_more, next_child, tag_first, when_ok}
use Rattle.tml_types.proofs.walk.+walk.Goals as goal
use Rattle.tml_types.proofs.walk.+walk.Goals.{type_tag-in-Some+else-is_err, type_tag-in_default}

pub type_tag-returns-in_err-own-clause-err : goal.type_tag-returns-in_err-own-clause-err
type_tag-returns-in_err-own-clause-err t c =
    let p = err_from_is_err_and c.from_residual.result c.from_residual.ensures.1 in
    rw (p.1, p.2) (fault_of_more [] _ _ _ _ (tag_first c.args.tag.now _ _ c.as_slice.ensures refl) (All-nil BreaksNoTagRule) c.in_err-own.ensures.err)

pub type_tag-loop-child-init : goal.type_tag-loop-child-init
type_tag-loop-child-init t c =
    let tag = c.args.tag.now in
    let own = tag_at tag.span.start tag.name (map attribute_of c.as_slice.result.now) in (
      own ∷ [],
      tag_first tag _ _ c.as_slice.ensures c.deref-child-items.ensures.value,
      elim c.match-branch-2.branch [
        | type_tag-in-Some+else-is_err w ↦
            adds_one own c.args.typed.now c.match-branch-2.typed w.in-Some.own (rw w.in-Some.is at c.in_ok-own.ensures.ok) (w.typed-is ∙ when_ok w.push.result (w.if-is_err.ensures.value) w.push.ensures.ok)
        | type_tag-in_default w ↦ adds_none own c.args.typed.now c.match-branch-2.typed (rw w.in_default.is at c.in_ok-own.ensures.ok) w.typed-is
      ],
    )

pub type_tag-returns-in_err-type_node-clause-err : goal.type_tag-returns-in_err-type_node-clause-err
type_tag-returns-in_err-type_node-clause-err t c =
    let at = c.loop-child.invariant in
    let p = err_from_is_err_and c.from_residual-in_err-type_node.result c.from_residual-in_err-type_node.ensures.1 in
    rw (p.1, p.2) (fault_of_more at.0 _ _ _ _ (next_child at.0 c.deref-child-items.result.now c.loop-child.child-index c.child-item.result _ c.loop-child-test.true c.child-item.is at.1) at.2.1.sound c.in_err-type_node.ensures.err)

pub type_tag-loop-child-preserved : goal.type_tag-loop-child-preserved
type_tag-loop-child-preserved t c =
    let at = c.loop-child.invariant in
    let inside = elements (node_of c.child-item.result) in (
      at.0 ++ inside,
      next_child at.0 c.deref-child-items.result.now c.loop-child.child-index c.child-item.result _ c.loop-child-test.true c.child-item.is at.1,
      adds_more at.0 inside _ _ _ at.2 c.in_ok-type_node.ensures.ok,
    )

pub type_tag-returns-clause-ok : goal.type_tag-returns-clause-ok
type_tag-returns-clause-ok t c = grind (arith, common_steps)
