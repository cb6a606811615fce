use Rattle.std.proofs.Common.{true, false, ◌++◌, sym, ap, ◌∙◌}
use Rattle.tml_span.proofs.TagUnits.{close_of, opens, tag_finds, no_name_stops, no_close_stops}
use Rattle.tml_span.proofs.tags.tag_at.Goals as goal

pub returns-in_default-clause-unit : goal.returns-in_default-clause-unit
returns-in_default-clause-unit c = no_name_stops _ _ (opens c.args.bytes.now c.requires.slash c.requires.bang c.requires.query) (sym c.in_default.ensures.reads)

pub returns-in_default-close_at-clause-unit : goal.returns-in_default-close_at-clause-unit
returns-in_default-close_at-clause-unit c =
    no_close_stops _ _ _ _ _ (opens c.args.bytes.now c.requires.slash c.requires.bang c.requires.query)
    (record { mid = c.in-Some.mid.now; after = c.in_ok-attrs.after.now; named = sym c.in-Some.ensures.reads; attributes = c.in_ok-attrs.ensures.reads; closed = sym c.after_white.ensures.white })
    c.in_default-close_at.ensures.close

pub returns-then-is_empty-clause-unit : goal.returns-then-is_empty-clause-unit
returns-then-is_empty-clause-unit c =
    tag_finds _ true _ _ _ _
    (record { mid = c.in-Some.mid.now; after = c.in_ok-attrs.after.now; named = sym c.in-Some.ensures.reads; attributes = c.in_ok-attrs.ensures.reads; closed = sym c.after_white.ensures.white ∙ c.in-Some-close_at.ensures.close ∙ ap (λ t. close_of t ++ c.in-Some-close_at.rest.now) c.if-is_empty.true })

pub returns-clause-unit : goal.returns-clause-unit
returns-clause-unit c =
    tag_finds _ false _ _ _ _
    (record { mid = c.in-Some.mid.now; after = c.in_ok-attrs.after.now; named = sym c.in-Some.ensures.reads; attributes = c.in_ok-attrs.ensures.reads; closed = sym c.after_white.ensures.white ∙ c.in-Some-close_at.ensures.close ∙ ap (λ t. close_of t ++ c.in-Some-close_at.rest.now) c.if-is_empty.false })
