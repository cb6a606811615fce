use Rattle.std.proofs.Common.{sym, subst}
use Rattle.timex_value.specs.Values.{shape_of}
use Rattle.timex_value.specs.Years.{HasYear}
use Rattle.timex_dates.specs.Valid.{HasParts}
use Rattle.timex_dates.proofs.Fillings.{has_year, has_parts}
use Rattle.timex_dates.proofs.bounds.fields_of.Goals as goal

pub returns-clause-known : goal.returns-clause-known
returns-clause-known c = subst HasYear (sym c.year.ensures) (has_year c.args.calendar.now)

pub returns-clause-parts : goal.returns-clause-parts
returns-clause-parts c =
    let calendar = c.args.calendar.now in
    subst (HasParts c.year.result) (sym c.shape.ensures) (subst (λ y. HasParts y (shape_of calendar)) (sym c.year.ensures) (has_parts calendar))
