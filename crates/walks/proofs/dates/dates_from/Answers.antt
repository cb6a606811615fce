use Rattle.std.proofs.Common.{int_lt, sym, subst, rules}
use Rattle.std.proofs.lemmas.List.{take_rest}
use Rattle.std.proofs.lemmas.List.Sorted.{IsPartitionPoint-from_clause}
use Rattle.walks.specs.Dates.{AreAscending, AreDatesFrom, AreOfDistinctPoints}
use Rattle.walks.specs.declared.dates.Date.{Date}
use Rattle.walks.proofs.DateLaws.{ascending_from, below_first, distinct_from, from_number}
use Rattle.walks.proofs.dates.dates_from.Goals as goal

pub returns-clause-dates : goal.returns-clause-dates
returns-clause-dates c =
    let dates = c.args.dates.now in
    let number = c.args.number in
    let first = c.partition_point-first.result in
    subst (AreDatesFrom number dates) (sym (take_rest dates first)) (from_number dates number first
    (IsPartitionPoint-from_clause (λ (date : Date). int_lt date.number number) dates first c.partition_point-first.ensures.partitioned (below_first dates number c.requires) (λ a r q k. search rules)))

pub returns-clause-sorted : goal.returns-clause-sorted
returns-clause-sorted c =
    let dates = c.args.dates.now in
    let first = c.partition_point-first.result in
    subst AreAscending (sym (take_rest dates first)) (ascending_from dates first c.requires)

pub returns-clause-once : goal.returns-clause-once
returns-clause-once c once =
    let dates = c.args.dates.now in
    let first = c.partition_point-first.result in
    subst AreOfDistinctPoints (sym (take_rest dates first)) (distinct_from dates first once)
