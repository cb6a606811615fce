use Rattle.std.proofs.Common.{◌≡◌, ◌++◌, ℕ, Bor, List, length, map}
use Rattle.answers.specs.Names.{AreNames}
use Rattle.possible_answers.specs.Matrix.{RelTest, TellsTable, matrix_lines}
use Rattle.possible_answers.specs.SetTexts.{AreTexts}
use Rattle.possible_answers.proofs.matrix.matrix_text.Given as goal

-- the lines so far, and those of what is left
abbrev pub invariant-loop-a : goal.invariant-loop-a
invariant-loop-a l = record {
  end : l.a-end ≡ length l.document.intervals;
  names : AreNames l.document.intervals (map (λ (name : Bor (List ℕ)). name.now) l.names.items);
  texts : AreTexts l.texts.bytes.items l.texts.places.items;
  lines : (can : RelTest) → TellsTable l.table can → l.text.items ++ matrix_lines l.document.intervals (length l.document.intervals) can l.a ≡ matrix_lines l.document.intervals (length l.document.intervals) can 0;
}
