use Rattle.std.proofs.Common.{◌≡◌, ◌+◌, ◌*◌, ◌<◌, arith}
use Rattle.order_closure.specs.Tables.{cell_at}
use Rattle.order_closure.specs.declared.cell.Cell.TheVariants.{Strict}
use Rattle.tml_possible.proofs.Growing.{not_denied_set}
use Rattle.tml_possible.proofs.Lists.{both_true}
use Rattle.tml_possible.proofs.possible_sets.possible_set.Goals as goal

pub returns-then-first-second : goal.returns-then-first-second
returns-then-first-second c =
    let table = c.args.closed.now in
    let a = c.args.a in
    let b = c.args.b in
    let fa : 2 * a + 1 < table.points = omega (arith, c.requires.even, c.requires.a) in
    let fb : 2 * b + 1 < table.points = omega (arith, c.requires.even, c.requires.b) in
    let both = (both_true c.starts_first-first.result c.starts_first-second.result (cell_at table (2 * a) (2 * a + 1) ≡ Strict) (cell_at table (2 * b) (2 * b + 1) ≡ Strict) c.starts_first-first.ensures c.starts_first-second.ensures).0 c.if-first-second.true in
    not_denied_set table a b c.orders_between.result c.not_denied-bits.result c.points.ensures.closed c.orders_between.ensures fa fb both.0 both.1 c.not_denied-bits.ensures
