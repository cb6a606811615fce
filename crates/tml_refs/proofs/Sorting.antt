-- The entries of some tags, once they are sorted.
use Rattle.std.proofs.Common.{cond, List, arith}
use Rattle.std.specs.List.Sorted.{IsPermutation, IsSortedByKey}
use Rattle.std.proofs.lemmas.List.Sorted.{All-permutation, Contains-permutation, sum_by-IsPermutation}
use Rattle.tml_types.specs.Content.{PlainTyped}
use Rattle.tml_refs.specs.declared.name_index.Entry.{Entry}
use Rattle.tml_refs.specs.NameIndex.{AreEntriesInOrder, AreEntriesOf, IsEntryIn, is_at, key_of, key_order}

pub entries_sorted : (tags : List PlainTyped) (xs ys : List Entry) → AreEntriesOf tags xs → IsPermutation xs ys → AreEntriesOf tags ys
entries_sorted tags xs ys names moved = record {
  each = λ before after tag whole some. let e = names.each before after tag whole some in (e.0, Contains-permutation xs ys e.0 moved e.1, e.2);
  only = All-permutation (IsEntryIn tags) xs ys moved names.only;
  apart = λ place. omega (arith, sum_by-IsPermutation (λ (e : Entry). cond (is_at place e) 1 0) xs ys moved, names.apart place);
}

pub in_order : (tags : List PlainTyped) (ys : List Entry) → AreEntriesOf tags ys → IsSortedByKey key_of key_order ys → AreEntriesInOrder ys
in_order tags ys names sorted = record {
  sorted = sorted;
  heads = λ k d below. (names.only k d below).4.head;
  apart = names.apart;
}
