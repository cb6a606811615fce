use Rattle.std.proofs.Common.{◌≡◌, ◌++◌, take}
use Rattle.std.specs.List.{filter, flat_map}
use Rattle.net_core.specs.Rels.{all_rels}
use Rattle.possible_answers.specs.Matrix.{rel_word}
use Rattle.tml_possible.specs.Sets.{has}
use Rattle.possible_answers.proofs.set_texts.push_words.Given as goal

-- the words of the relations so far that are in the set
abbrev pub invariant-loop-rel : goal.invariant-loop-rel
invariant-loop-rel l = record {
  rels : l.rel-items ≡ all_rels;
  words : l.out.items ≡ l.initial.out.items ++ flat_map rel_word (filter (has l.set) (take l.rel-index all_rels));
}
