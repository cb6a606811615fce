use Rattle.std.proofs.Common.{◌≡◌, ◌≢◌, ◌+◌, ◌*◌}
use Rattle.order_closure.specs.Tables.{cell_at}
use Rattle.order_closure.specs.declared.cell.Cell.TheVariants.{Free, Strict}
use Rattle.order_closure.specs.Between.{end_number}
use Rattle.order_closure.proofs.OrderBits.{rows_say, strict_bits, weak_bits}
use Rattle.order_closure.proofs.between.one_way.Goals as goal

pub returns-clause-weak : goal.returns-clause-weak
returns-clause-weak c =
    let table = c.args.closed.now in
    let ws = c.two_bits-weak_start in
    let ss = c.two_bits-strict_start in
    let wf = c.two_bits-weak_finish in
    let sf = c.two_bits-strict_finish in
    rows_say table.points (λ x j. cell_at table x j ≢ Free) c.args.a c.args.b ws.result wf.result c.weak_row.result.now c.weak_row-2.result.now c.weak_row.ensures c.weak_row-2.ensures c.requires.b ws.ensures.bits wf.ensures.bits
    (4 * (4 * (4 * sf.result + wf.result) + ss.result) + ws.result) (λ p q. 4 * end_number p + end_number q)
    (weak_bits ws.result ss.result wf.result sf.result ws.ensures.small ss.ensures.small wf.ensures.small sf.ensures.small)

pub returns-clause-strict : goal.returns-clause-strict
returns-clause-strict c =
    let table = c.args.closed.now in
    let ws = c.two_bits-weak_start in
    let ss = c.two_bits-strict_start in
    let wf = c.two_bits-weak_finish in
    let sf = c.two_bits-strict_finish in
    rows_say table.points (λ x j. cell_at table x j ≡ Strict) c.args.a c.args.b ss.result sf.result c.strict_row.result.now c.strict_row-2.result.now c.strict_row.ensures c.strict_row-2.ensures c.requires.b ss.ensures.bits sf.ensures.bits
    (4 * (4 * (4 * sf.result + wf.result) + ss.result) + ws.result) (λ p q. 4 * end_number p + 2 + end_number q)
    (strict_bits ws.result ss.result wf.result sf.result ws.ensures.small ss.ensures.small wf.ensures.small sf.ensures.small)
