use Rattle.std.proofs.Common.{sym, ap, ◌∙◌}
use Rattle.tml_span.specs.Reading.{after_byte}
use Rattle.tml_span.proofs.Parts.{byte_takes}
use Rattle.tml_span.proofs.TagUnits.{end_tag_finds, no_name_end_stops, no_close_end_stops}
use Rattle.tml_span.proofs.tags.end_tag_at.Goals as goal

pub returns-in_err-name-clause-unit : goal.returns-in_err-name-clause-unit
returns-in_err-name-clause-unit c = rw c.from_residual.ensures (no_name_end_stops _ _ (sym c.in_err-name.ensures.reads))

pub returns-in_err-rest-clause-unit : goal.returns-in_err-rest-clause-unit
returns-in_err-rest-clause-unit c =
    rw c.from_residual-in_err-rest.ensures (no_close_end_stops _ _ _ _ (sym c.in_ok-name.ensures.reads) (ap (after_byte 62) (sym c.after_white.ensures.white) ∙ sym c.in_err-rest.ensures.reads))

pub returns-clause-unit : goal.returns-clause-unit
returns-clause-unit c =
    end_tag_finds _ _ _ _
    (record { mid = c.in_ok-name.mid.now; named = sym c.in_ok-name.ensures.reads; closed = sym c.after_white.ensures.white ∙ byte_takes 62 _ _ (sym c.in_ok-rest.ensures.reads) })
