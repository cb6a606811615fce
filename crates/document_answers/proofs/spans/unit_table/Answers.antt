use Rattle.std.proofs.Common.{◌≡◌, ◌++◌, [], ap, arith, subst, sym, ◌∙◌}
use Rattle.std.proofs.lemmas.Grind.{common_steps}
use Rattle.tml_span.specs.Reader.{Reading}
use Rattle.tml_span.specs.View.{unit_of}
use Rattle.document_answers.specs.Spans as texts
use Rattle.document_answers.proofs.UnitTables.{HasRows, one_more}
use Rattle.document_answers.proofs.spans.unit_table.Goals as goal

pub loop-unit-init : goal.loop-unit-init
loop-unit-init c = record { source = ap (λ (r : Reading). r.source) c.in-Ok.ensures.ok.0; rows = ([], c.in-Ok.ensures.ok.1, c.new-table.ensures.items) }

pub loop-unit-preserved : goal.loop-unit-preserved
loop-unit-preserved c =
    let gives = rw c.in-Ok-Some.field-0-is at c.in-Ok-Some.ensures in
    let unit = unit_of c.in-Ok-Some.unit in
    let lines : c.push_unit.new.out.items ≡ c.loop-unit.table.items ++ texts.unit_lines unit = grind (arith, common_steps, c.push_unit.ensures, c.if-is_err.ensures.value) in
    record {
      source = ap (λ (r : Reading). r.source) c.take_back.ensures ∙ gives.0 ∙ c.loop-unit.invariant.source;
      rows = subst (λ (r : Reading). HasRows r c.push_unit.new.out.items) (sym c.take_back.ensures) (one_more c.loop-unit.cutter c.pull.new.self c.loop-unit.table.items c.push_unit.new.out.items unit gives.4 c.loop-unit.invariant.rows lines);
    }
