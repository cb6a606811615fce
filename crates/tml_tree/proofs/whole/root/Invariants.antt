use Rattle.std.proofs.Common.{◌≡◌, ◌++◌, length, map}
use Rattle.std.specs.Vec.Iter.{into_iter_items, into_iter_len}
use Rattle.tml_span.specs.View.{unit_of}
use Rattle.tml_tree.specs.Taking.{HasBuilt}
use Rattle.tml_tree.proofs.whole.root.Given as goal

abbrev pub invariant-loop-unit : goal.invariant-loop-unit
invariant-loop-unit l = record {
  items : l.yielded ++ into_iter_items l.unit-iterator ≡ into_iter_items l.initial.unit-iterator;
  left : into_iter_len l.unit-iterator ≡ length (into_iter_items l.unit-iterator);
  taken : HasBuilt (map unit_of l.yielded) l.builder;
}
