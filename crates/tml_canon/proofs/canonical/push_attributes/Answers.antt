use Rattle.std.proofs.Common.{◌≡◌, ◌++◌, List, ℕ, OnOk, ap, refl, sym, subst, ◌∙◌, rules}
use Rattle.std.specs.List.Sorted.{IsSortedBy, IsStableBy}
use Rattle.std.specs.Ordering.{is_lt}
use Rattle.std.proofs.lemmas.Fn.{always_returns_same}
use Rattle.tml_span.specs.declared.unit.Attr.{Attr}
use Rattle.tml_canon.proofs.SortedNames.{has_lower_name, is_not_after, names_rank, sorted_by_test, sorted_text}
use Rattle.tml_canon.proofs.canonical.push_attributes.Goals as goal

pub returns-then-is_sorted_by : goal.returns-then-is_sorted_by
returns-then-is_sorted_by c =
    let attrs = c.args.attrs.now in
    let answers = always_returns_same _ (λ a r. r ≡ is_not_after a.0.now a.1.0.now) _ (λ a r f k. search rules) in
    let up = sorted_by_test attrs c.is_sorted_by.result c.if-is_sorted_by.true (c.is_sorted_by.ensures.cases is_not_after answers) in
    subst (λ (s : List ℕ). OnOk c.push_each.result (c.push_each.new.out.items ≡ s)) (sorted_text c.args.out.now.items attrs attrs up (λ w. refl)) c.push_each.ensures

pub returns : goal.returns
returns c =
    let attrs = c.args.attrs.now in
    let sorted = c.as_slice.result.now in
    let obeys = always_returns_same _ (λ a r. is_lt r ≡ has_lower_name a.0.now a.1.0.now) _ (λ a r f k. search rules) in
    let these : c.sort_by.new.self.items ≡ sorted = sym c.as_slice.ensures.value in
    let copied : c.extend_from_slice.new.self.items ≡ attrs = c.in_ok-extend_from_slice.ensures.items ∙ ap (λ (before : List Attr). before ++ attrs) c.clear.ensures.items in
    let up : IsSortedBy has_lower_name sorted = subst (IsSortedBy has_lower_name) these (c.in_ok-sort_by.ensures.sorted has_lower_name names_rank obeys) in
    let same : IsStableBy has_lower_name attrs sorted = rw (← these, ← copied) (c.in_ok-sort_by.ensures.stable has_lower_name names_rank obeys) in
    subst (λ (s : List ℕ). OnOk c.push_each-2.result (c.push_each-2.new.out.items ≡ s)) (sorted_text c.args.out.now.items attrs sorted up same) c.push_each-2.ensures
