use Rattle.std.proofs.Common.{◌≡◌, ◌+◌, ◌≤◌, ◌++◌, ℕ, Bor, List, length, map}
use Rattle.answers.specs.Names.{AreNames}
use Rattle.possible_answers.specs.Matrix.{RelTest, TellsTable, lines_from}
use Rattle.possible_answers.specs.SetTexts.{AreTexts}
use Rattle.tml_refs.specs.Documents.{PlainInterval}
use Rattle.possible_answers.proofs.matrix.push_from.Given as goal

-- the lines so far, and those of what is left
abbrev pub invariant-loop-b : goal.invariant-loop-b
invariant-loop-b l = record {
  end : l.b-end ≡ length l.names;
  past : l.a + 1 ≤ l.b;
  texts : AreTexts l.texts.bytes.items l.texts.places.items;
  lines : (intervals : List PlainInterval) (can : RelTest) → AreNames intervals (map (λ (name : Bor (List ℕ)). name.now) l.names) → TellsTable l.table can
      → l.out.items ++ lines_from intervals (length l.names) can l.a l.b ≡ l.initial.out.items ++ lines_from intervals (length l.names) can l.a (l.a + 1);
}
