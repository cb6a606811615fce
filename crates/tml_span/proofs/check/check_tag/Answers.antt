use Rattle.std.proofs.Common.{sym, ◌∙◌}
use Rattle.tml_span.proofs.Checks.{tag_checked}
use Rattle.tml_span.proofs.TagUnits.{opens, no_name_stops, no_close_stops}
use Rattle.tml_span.proofs.check.check_tag.Goals as goal

pub returns-in_err-name-clause-unit : goal.returns-in_err-name-clause-unit
returns-in_err-name-clause-unit c = rw c.from_residual.ensures (no_name_stops _ _ (opens c.args.bytes.now c.requires.slash c.requires.bang c.requires.query) (sym c.in_err-name.ensures.reads))

pub returns-in_err-rest-clause-unit : goal.returns-in_err-rest-clause-unit
returns-in_err-rest-clause-unit c =
    let attributes = c.check_attributes-bad.ensures.reads in
    rw c.from_residual-in_err-rest.ensures (no_close_stops _ _ _ _ _ (opens c.args.bytes.now c.requires.slash c.requires.bang c.requires.query)
    (record { mid = c.in_ok-name.mid.now; after = c.check_attributes-bad.result.rest.now; named = sym c.in_ok-name.ensures.reads; attributes = attributes.1; closed = sym c.after_white.ensures.white })
    c.in_err-rest.ensures.close)

pub returns-clause-unit : goal.returns-clause-unit
returns-clause-unit c =
    let attributes = c.check_attributes-bad.ensures.reads in
    tag_checked c.args.place c.in_ok-rest.field-0-0 c.args.bytes.now c.in_ok-name.name.now c.in_ok-rest.rest.now attributes.0 c.check_attributes-bad.result.bad
    (record { mid = c.in_ok-name.mid.now; after = c.check_attributes-bad.result.rest.now; named = sym c.in_ok-name.ensures.reads; attributes = attributes.1; closed = sym c.after_white.ensures.white ∙ c.in_ok-rest.ensures.close })
    attributes.2
