use Rattle.std.proofs.Common.{◌≡◌, ◌+◌, take}
use Rattle.std.specs.List.{count_by}
use Rattle.line_texts.specs.Lines.{is_lf}
use Rattle.line_texts.proofs.read.line_of.Given as goal

-- the number of the line at which what was not looked at begins
abbrev pub invariant-loop-b : goal.invariant-loop-b
invariant-loop-b l = l.line ≡ count_by is_lf (take l.b-index l.read) + 1
