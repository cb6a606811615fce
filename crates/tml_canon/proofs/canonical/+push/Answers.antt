use Rattle.std.proofs.Common.{◌≡◌, ◌++◌, List, ℕ, OnOk, map, ap, subst, ◌∙◌, rules}
use Rattle.std.specs.Prelude.{codes}
use Rattle.tml_span.specs.View.{attribute_of}
use Rattle.tml_canon.specs.Canonical.{canonical_attributes, opening}
use Rattle.tml_canon.proofs.Pushing.{children_text, closing, empty_put, full_put, next_child, tag_opening}
use Rattle.tml_canon.proofs.canonical.+push.Goals as goal

pub push_tag-returns-then-is_empty : goal.push_tag-returns-then-is_empty
push_tag-returns-then-is_empty t c =
    let opened : c.push_opening.new.out.items ≡ c.args.out.now.items ++ tag_opening c.args.tag.now =
    c.in_ok-push_opening.ensures ∙ (λ i. c.args.out.now.items ++ opening (c.text.ensures i) (canonical_attributes (map attribute_of (c.as_slice.ensures i)))) in
    let whole = empty_put c.args.out.now.items c.push_opening.new.out.items c.args.tag.now c.as_slice-children.result.now opened c.as_slice-children.ensures.value c.if-is_empty.ensures in
    subst (λ (s : List ℕ). OnOk c.extend_from_slice.result (c.extend_from_slice.new.self.items ≡ s)) whole (search rules)

pub push_tag-loop-node-init : goal.push_tag-loop-node-init
push_tag-loop-node-init t c =
    let opened : c.push_opening.new.out.items ≡ c.args.out.now.items ++ tag_opening c.args.tag.now =
    c.in_ok-push_opening.ensures ∙ (λ i. c.args.out.now.items ++ opening (c.text.ensures i) (canonical_attributes (map attribute_of (c.as_slice.ensures i)))) in
    ap (λ (s : List ℕ). s ++ children_text c.as_slice-children.result.now) (c.in_ok-extend_from_slice.ensures.items ∙ ap (λ (s : List ℕ). s ++ codes ">") opened)

pub push_tag-loop-node-preserved : goal.push_tag-loop-node-preserved
push_tag-loop-node-preserved t c =
    let put = next_child c.loop-node.out.items _ c.as_slice-children.result.now c.loop-node.node-index c.node-item.result c.loop-node-test.true c.node-item.is c.loop-node.invariant in
    rw c.in_ok-push_node.ensures put

pub push_tag-returns : goal.push_tag-returns
push_tag-returns t c =
    let whole = full_put c.args.out.now.items c.loop-node.out.items c.args.tag.now c.as_slice-children.result.now c.loop-node.node-index c.as_slice-children.ensures.value c.loop-node-test.false c.if-is_empty.ensures c.loop-node.invariant in
    let named = ap (λ (s : List ℕ). c.loop-node.out.items ++ closing s) c.text-2.ensures in
    subst (λ (s : List ℕ). OnOk c.push_end_tag.result (c.push_end_tag.new.out.items ≡ s)) (named ∙ whole) c.push_end_tag.ensures
