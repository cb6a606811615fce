use Rattle.evidence_check.proofs.PairSets.{all_same}
use Rattle.evidence_check.specs.Pairs.{IsKept, IsPairWithin}
use Rattle.evidence_check.specs.declared.pairs.Order.TheVariants.{Before, NoLater, Equal}
use Rattle.evidence_check.proofs.orders.Orders.drop_repeats.Goals as goal

pub returns-clause-keeps : goal.returns-clause-keeps
returns-clause-keeps c t = (
  λ kept. record {
    befores = all_same (IsKept Before t) _ _ (λ pair. (c.drop_repeats.ensures pair).1) kept.befores;
    no_laters = all_same (IsKept NoLater t) _ _ (λ pair. (c.drop_repeats-2.ensures pair).1) kept.no_laters;
    equals = all_same (IsKept Equal t) _ _ (λ pair. (c.drop_repeats-3.ensures pair).1) kept.equals;
  },
  λ kept. record {
    befores = all_same (IsKept Before t) _ _ (λ pair. (c.drop_repeats.ensures pair).0) kept.befores;
    no_laters = all_same (IsKept NoLater t) _ _ (λ pair. (c.drop_repeats-2.ensures pair).0) kept.no_laters;
    equals = all_same (IsKept Equal t) _ _ (λ pair. (c.drop_repeats-3.ensures pair).0) kept.equals;
  },
)

pub returns-clause-within : goal.returns-clause-within
returns-clause-within c n within = record {
  befores = all_same (IsPairWithin Before n) _ _ (λ pair. (c.drop_repeats.ensures pair).0) within.befores;
  no_laters = all_same (IsPairWithin NoLater n) _ _ (λ pair. (c.drop_repeats-2.ensures pair).0) within.no_laters;
  equals = all_same (IsPairWithin Equal n) _ _ (λ pair. (c.drop_repeats-3.ensures pair).0) within.equals;
}
