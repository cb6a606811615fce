use Rattle.std.proofs.Common.{◌≡◌, ◌++◌, drop}
use Rattle.document_answers.specs.Check as texts
use Rattle.document_answers.proofs.check.push_intervals.Given as goal

-- the lines so far, and those of what is left
abbrev pub invariant-loop-i : goal.invariant-loop-i
invariant-loop-i l = l.out.items ++ texts.interval_lines l.i (drop l.i l.document.intervals) ≡ l.fn.out.items ++ texts.interval_lines 0 l.document.intervals
