use Rattle.std.proofs.Common.{int_le, rules}
use Rattle.std.proofs.lemmas.List.Sorted.{IsPartitionPoint-from_clause}
use Rattle.walks.specs.declared.dates.Date.{Date}
use Rattle.net_orders.proofs.MilestoneLaws.{place_past, up_to_first}
use Rattle.net_orders.proofs.milestones.first_past.Goals as goal

pub returns : goal.returns
returns c =
    let dates = c.args.dates.now in
    let number = c.args.number in
    place_past dates number c.partition_point.result
    (IsPartitionPoint-from_clause (λ (date : Date). int_le date.number number) dates c.partition_point.result c.partition_point.ensures.partitioned (up_to_first dates number c.requires) (λ a r q k. search rules))
