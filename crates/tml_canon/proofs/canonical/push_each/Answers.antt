use Rattle.std.proofs.Common.{◌++◌, List, ap, ◌∙◌}
use Rattle.std.proofs.lemmas.List.{take_all}
use Rattle.tml_span.specs.declared.unit.Attr.{Attr}
use Rattle.tml_canon.proofs.SortedNames.{attribute_put, attributes_text}
use Rattle.tml_canon.proofs.canonical.push_each.Goals as goal

pub loop-attr-preserved : goal.loop-attr-preserved
loop-attr-preserved c = attribute_put c.args.out.now.items c.loop-attr.out.items _ c.args.attrs.now c.loop-attr.attr-index _ c.loop-attr-test.true c.loop-attr.invariant c.in_ok-push_attribute.ensures

pub returns : goal.returns
returns c = c.loop-attr.invariant ∙ ap (λ (as' : List Attr). c.args.out.now.items ++ attributes_text as') (take_all c.loop-attr.attr-index c.args.attrs.now c.loop-attr-test.false)
