use Rattle.std.proofs.Common.{List, map, sym, subst, take}
use Rattle.tml_types.specs.Content.{PlainTyped}
use Rattle.tml_types.specs.View.{typed_of}
use Rattle.tml_types.proofs.Walks.{when_ok}
use Rattle.tml_refs.specs.Taking.{HasTakenTags}
use Rattle.tml_refs.proofs.Placing.{next_placed, next_plain}
use Rattle.tml_refs.proofs.resolving.resolve.Goals as goal

pub take-requires : goal.take-requires
take-requires c =
    let items = c.as_slice-tag-items.result.now in
    let tags = c.as_slice-tag-items.ensures in
    (map typed_of (take c.loop-tag.tag-index items), c.loop-tag.invariant, next_placed items c.loop-tag.tag-index c.tag-item.result c.loop-tag-test.true c.tag-item.is c.args.typed.now tags.tags tags.placed)

pub loop-tag-preserved : goal.loop-tag-preserved
loop-tag-preserved c =
    let items = c.as_slice-tag-items.result.now in
    let tags = c.as_slice-tag-items.ensures in
    let i = c.loop-tag.tag-index in
    let item = c.tag-item.result in
    let placed = next_placed items i item c.loop-tag-test.true c.tag-item.is c.args.typed.now tags.tags tags.placed in
    subst (λ (ts : List PlainTyped). HasTakenTags ts c.take.new.self) (sym (next_plain items i item c.loop-tag-test.true c.tag-item.is))
    (when_ok c.take.result c.if-is_err.ensures.value c.take.ensures (map typed_of (take i items)) c.loop-tag.invariant placed)
