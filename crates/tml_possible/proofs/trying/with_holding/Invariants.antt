use Rattle.std.proofs.Common.{◌≡◌, take}
use Rattle.std.specs.List.{Contains}
use Rattle.net_core.specs.Relations.{Holds}
use Rattle.net_core.specs.Rels.{all_rels}
use Rattle.tml_possible.specs.Sets.{AreMore}
use Rattle.tml_possible.proofs.trying.with_holding.Given as goal

-- the relations so far that hold are in the set
abbrev pub invariant-loop-rel : goal.invariant-loop-rel
invariant-loop-rel l = record {
  items : l.rel-items ≡ all_rels;
  more : AreMore l.fn.set (λ r. Contains (take l.rel-index all_rels) r × Holds l.of_a r l.of_b) l.more;
}
