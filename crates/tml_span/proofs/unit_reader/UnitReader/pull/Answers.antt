use Rattle.std.proofs.Common.{sym, subst}
use Rattle.tml_span.specs.Reader.{GivesUnit}
use Rattle.tml_span.proofs.Dividing.{gives, still_reading}
use Rattle.tml_span.proofs.unit_reader.UnitReader.pull.Goals as goal
use Rattle.tml_span.proofs.unit_reader.UnitReader.pull.Goals.{in-Ok, in-Err}

pub invariant_of-self : goal.invariant_of-self
invariant_of-self c = still_reading c.self.inside.cutter c.pull.new.self c.self.invariant c.pull.result c.pull.ensures

pub returns : goal.returns
returns c =
    let old = c.self.inside.cutter in
    let new = c.pull.new.self in
    let given : GivesUnit old new c.match-pull.result = elim c.match-pull.branch [
      | in-Ok w ↦ subst (λ r. GivesUnit old new r) (sym w.result-is) (gives old new c.self.invariant w.in-Ok.found w.in-Ok.ensures)
      | in-Err w ↦ subst (λ r. GivesUnit old new r) (sym w.result-is) w.in-Err.ensures.0
    ] in
    record { gives = subst (λ r. GivesUnit r new c.match-pull.result) c.self.view_is given }
