use Rattle.std.proofs.Common.{◌≡◌, ◌≤◌, length, map, take}
use Rattle.tml_refs.specs.Documents.{interval_name}
use Rattle.answers.proofs.names.names_of.Given as goal

-- the names of the intervals so far
abbrev pub invariant-loop-i : goal.invariant-loop-i
invariant-loop-i l = record {
  end : l.i-end ≡ length l.document.intervals;
  within : l.i ≤ l.i-end;
  names : map (λ name. name.now) l.names.items ≡ map interval_name (take l.i l.document.intervals);
}
