use Rattle.std.proofs.Common.{Bool, List, rules, subst, sym}
use Rattle.std.specs.Ordering.{is_lt}
use Rattle.std.proofs.lemmas.Fn.{always_returns_same}
use Rattle.std.proofs.lemmas.List.Sorted.{ranks_by}
use Rattle.tml_refs.specs.declared.name_index.Entry.{Entry}
use Rattle.tml_refs.specs.NameIndex.{AreEntriesOf, key_of, key_order}
use Rattle.tml_refs.proofs.Orders.{key_total}
use Rattle.tml_refs.proofs.Sorting.{in_order, entries_sorted}
use Rattle.tml_refs.proofs.name_index.NameIndex.new.Goals as goal

pub invariant_of-result : goal.invariant_of-result
invariant_of-result c =
    let sort = c.sort_unstable_by in
    let names = subst (λ (es : List Entry). AreEntriesOf c.requires.0 es) (sym c.into_vec-entries.ensures) c.requires.1 in
    let less : Entry → Entry → Bool = λ x y. is_lt (key_order (key_of x) (key_of y)) in
    let sorted = sort.ensures.sorted less (ranks_by key_total key_of) (always_returns_same _ _ _ (λ a r f called. search rules)) in
    in_order c.requires.0 sort.new.self.items (entries_sorted c.requires.0 c.into_vec-entries.result.items sort.new.self.items names sort.ensures.permutation) sorted

pub returns : goal.returns
returns c = λ tags names.
    let sort = c.sort_unstable_by in
    entries_sorted tags c.into_vec-entries.result.items sort.new.self.items (subst (λ (es : List Entry). AreEntriesOf tags es) (sym c.into_vec-entries.ensures) names) sort.ensures.permutation
