use Rattle.std.proofs.Common.{◌≡◌, take}
use Rattle.std.specs.List.{All, filter}
use Rattle.net_core.specs.Rels.{all_rels}
use Rattle.order_closure.specs.Tables.{Keeps}
use Rattle.tml_possible.specs.Possible.{IsShown, rels_of}
use Rattle.tml_possible.specs.Sets.{has}
use Rattle.tml_possible.proofs.timelines.possible.Given as goal

-- an item for each relation so far that is in the set
abbrev pub invariant-loop-rel : goal.invariant-loop-rel
invariant-loop-rel l = record {
  rels : l.rel-items ≡ all_rels;
  relations : rels_of l.items ≡ filter (has l.set) (take l.rel-index all_rels);
  shown : All (IsShown l.closed.points (Keeps l.closed) l.a l.b) l.items;
}
