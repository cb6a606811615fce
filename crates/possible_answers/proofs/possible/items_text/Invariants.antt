use Rattle.std.proofs.Common.{◌≡◌, ◌++◌, drop}
use Rattle.std.specs.List.{flat_map}
use Rattle.order_closure.specs.Tables.{Keeps}
use Rattle.possible_answers.specs.Possible.{item_lines, items_text}
use Rattle.tml_possible.specs.Possible.{AreShown}
use Rattle.possible_answers.proofs.possible.items_text.Given as goal

-- the lines so far, and those of what is left
abbrev pub invariant-loop-item : goal.invariant-loop-item
invariant-loop-item l = record {
  shown : AreShown l.table.points (Keeps l.table) l.a l.b l.item-items;
  lines : l.text.items ++ flat_map item_lines (drop l.item-index l.item-items) ≡ items_text l.item-items;
}
