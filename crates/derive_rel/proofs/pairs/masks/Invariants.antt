use Rattle.std.proofs.Common.{◌≡◌, map, take}
use Rattle.net_core.specs.Rels.{all_rels}
use Rattle.derive_rel.specs.Pairs.{mask_for}
use Rattle.derive_rel.proofs.pairs.masks.Given as goal

-- the masks of the relations so far are made
abbrev pub invariant-loop-rel : goal.invariant-loop-rel
invariant-loop-rel l = record {
  items : l.rel-items ≡ all_rels;
  made : l.masks.items ≡ map mask_for (take l.rel-index all_rels);
}
