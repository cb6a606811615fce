use Rattle.tml_span.proofs.FirstBad.{value_within, first_in_value, none_in_value}
use Rattle.tml_span.proofs.references.bad_value.Goals as goal

pub bad_place_in_value-requires : goal.bad_place_in_value-requires
bad_place_in_value-requires c = value_within c.args.attrs.now c.loop-attr.attr-index _ c.loop-attr-test.true c.requires.within

pub returns-in-Some : goal.returns-in-Some
returns-in-Some c = first_in_value c.args.attrs.now c.loop-attr.attr-index _ _ c.loop-attr-test.true c.requires.follows c.loop-attr.invariant c.in-Some.ensures

pub loop-attr-preserved : goal.loop-attr-preserved
loop-attr-preserved c = none_in_value c.args.attrs.now c.loop-attr.attr-index _ c.loop-attr-test.true c.loop-attr.invariant c.in_default.ensures
