use Rattle.std.proofs.Common.{drop}
use Rattle.document_answers.proofs.Times.{Completes}
use Rattle.document_answers.proofs.dates.date_lines.Given as goal

abbrev pub invariant-loop-i : goal.invariant-loop-i
invariant-loop-i l = Completes (drop l.i l.document.intervals) l.document.intervals l.out.items
