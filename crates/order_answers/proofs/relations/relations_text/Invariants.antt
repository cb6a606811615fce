use Rattle.std.proofs.Common.{◌≡◌, ◌++◌, ℕ, Bor, List, Vec, drop, map}
use Rattle.std.specs.List.{flat_map}
use Rattle.std.specs.declared.alloc.Global.{Global}
use Rattle.answers.specs.Names.{AreNames}
use Rattle.derive_rel.specs.Entailed.{AreRows}
use Rattle.order_answers.specs.LineParts.{AreEnds, AreStarts}
use Rattle.order_answers.specs.Relations.{row_line}
use Rattle.order_answers.proofs.relations.relations_text.Given as goal

-- the names of all intervals, what lines end and begin with, the lines so far, and those of what is left
abbrev pub invariant-loop-row : goal.invariant-loop-row
invariant-loop-row l = record {
  names : AreNames l.document.intervals (map (λ (name : Bor (List ℕ)). name.now) l.names.items);
  ends : AreEnds (map (λ (name : Bor (List ℕ)). name.now) l.names.items) (map (λ (end : Vec ℕ Global). end.items) l.ends.items);
  starts : AreStarts (map (λ (name : Bor (List ℕ)). name.now) l.names.items) l.starts;
  are : AreRows l.table l.row-items;
  lines : l.text.items ++ flat_map (row_line l.document) (drop l.row-index l.row-items) ≡ flat_map (row_line l.document) l.row-items;
}
