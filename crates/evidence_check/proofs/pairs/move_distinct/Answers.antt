use Rattle.std.proofs.lemmas.List.Sorted.{Contains-permutation, IsPermutation-sym}
use Rattle.evidence_check.proofs.pairs.move_distinct.Goals as goal

pub returns-clause-same : goal.returns-clause-same
returns-clause-same c pair = (
  λ h. Contains-permutation c.sort.new.pairs c.args.pairs.now pair (IsPermutation-sym c.args.pairs.now c.sort.new.pairs c.sort.ensures) ((c.first_of_each.ensures.same pair).0 h),
  λ h. (c.first_of_each.ensures.same pair).1 (Contains-permutation c.args.pairs.now c.sort.new.pairs pair c.sort.ensures h),
)
