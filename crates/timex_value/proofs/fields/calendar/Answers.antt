use Rattle.std.proofs.Common.{subst}
use Rattle.timex_value.specs.Places.{YearIn}
use Rattle.timex_value.proofs.Places.{by_place, by_text}
use Rattle.timex_value.proofs.Spelling.{one_shape}
use Rattle.timex_value.proofs.fields.calendar.Goals as goal

pub returns-in_err-shape : goal.returns-in_err-shape
returns-in_err-shape c = rw c.from_residual.ensures (λ y s h. c.in_err-shape.ensures s (by_place y s c.args.text.now h).1)

pub returns-in_err-year : goal.returns-in_err-year
returns-in_err-year c = rw c.from_residual-in_err-year.ensures (λ y s h.
    let text = c.args.text.now in
    let placed = by_place y s text h in
    c.in_err-year.ensures y (subst (λ z. YearIn z y text) (one_shape s c.in_ok-shape.shape text placed.1 c.in_ok-shape.ensures) placed.0))

pub returns : goal.returns
returns c = by_text c.in_ok-year.year c.in_ok-shape.shape c.args.text.now (c.in_ok-year.ensures, c.in_ok-shape.ensures)
