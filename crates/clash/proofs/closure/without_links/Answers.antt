use Rattle.std.proofs.Common.{◌≡◌, ℕ, ap, subst, arith}
use Rattle.net_core.specs.Nets.{points}
use Rattle.order_closure.specs.Tables.{AreInRange, Table}
use Rattle.clash.proofs.Exact.{unlinked}
use Rattle.clash.proofs.Unlinked.{own_numbers, unlinked_fits}
use Rattle.clash.proofs.closure.without_links.Goals as goal

pub add_orders-requires : goal.add_orders-requires
add_orders-requires c =
    let size : points c.args.net.now ≡ c.in_ok-table.table.points = omega (arith, ap (λ (table : Table). table.points) c.in_ok-table.ensures.ok, c.intervals.ensures.count) in
    subst (λ (n : ℕ). AreInRange n c.args.fixed.now) size c.requires.in_range

pub unreachable-requires : goal.unreachable-requires
unreachable-requires c =
    let net = c.args.net.now in
    let t = own_numbers net in
    let fits = unlinked_fits net c.intervals.ensures.net in
    c.in_default.ensures t (c.in_ok-table.ensures.kept t) ((c.requires.exact t).1 (fits.order, fits.calendar))

pub returns : goal.returns
returns c = record {
  size = omega (arith, c.in-Ok.ensures.0, ap (λ (table : Table). table.points) c.in_ok-table.ensures.ok, c.intervals.ensures.count);
  keeps = unlinked c.args.net.now c.args.fixed.now c.in_ok-table.table c.add_orders.new.table c.requires c.in_ok-table.ensures.kept c.in-Ok.ensures;
}
