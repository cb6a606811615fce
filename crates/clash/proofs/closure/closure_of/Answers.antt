use Rattle.std.proofs.Common.{ap, arith}
use Rattle.order_closure.specs.Tables.{Table}
use Rattle.clash.proofs.closure.closure_of.Goals as goal

pub returns-in_default-add_orders-clause-none : goal.returns-in_default-add_orders-clause-none
returns-in_default-add_orders-clause-none c = λ t all. c.in_default-add_orders.ensures t ((c.in-Ok.ensures.ok.1 t).1 (c.in_ok-table.ensures.kept t) all) all

pub returns-clause-some : goal.returns-clause-some
returns-clause-some c = record {
  size = omega (arith, c.in-Ok-add_orders.ensures.0, c.in-Ok.ensures.ok.0, ap (λ (table : Table). table.points) c.in_ok-table.ensures.ok);
  keeps = λ t. (
    λ kept. ((c.in-Ok-add_orders.ensures.1 t).0 kept).1,
    λ all. (c.in-Ok-add_orders.ensures.1 t).1 ((c.in-Ok.ensures.ok.1 t).1 (c.in_ok-table.ensures.kept t) all, all),
  );
}
