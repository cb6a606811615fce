use Rattle.std.proofs.Common.{◌≡◌, ◌-◌, length}
use Rattle.document_answers.proofs.UnitTables.{HasRows}
use Rattle.document_answers.proofs.spans.unit_table.Given as goal

abbrev pub invariant-loop-unit : goal.invariant-loop-unit
invariant-loop-unit l = record {
  source : l.cutter.source ≡ l.fn.doc;
  rows : HasRows l.cutter l.table.items;
}

abbrev pub decreases-loop-unit : goal.decreases-loop-unit
decreases-loop-unit l = length l.cutter.source - l.cutter.place
