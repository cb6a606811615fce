use Rattle.std.proofs.Common.{◌≡◌}
use Rattle.net_orders.specs.declared.orders.Order.{Order}
use Rattle.tml_score.specs.Ends.{point_at_end}
use Rattle.tml_score.specs.Search.{basis_of}
use Rattle.tml_score.proofs.TieLaws.{among_all}
use Rattle.tml_score.proofs.ties.Ties.of_point.Goals as goal

pub returns-in-From : goal.returns-in-From
returns-in-From c =
    let by = c.args.self.now.onward in
    among_all (basis_of c.args.kept.now) (λ (o : Order). point_at_end by.by o ≡ c.args.point) by.items c.of_point.result.now c.requires.ties.onward.0 c.of_point.ensures

pub returns-in-To : goal.returns-in-To
returns-in-To c =
    let by = c.args.self.now.back in
    among_all (basis_of c.args.kept.now) (λ (o : Order). point_at_end by.by o ≡ c.args.point) by.items c.of_point-in-To.result.now c.requires.ties.back.0 c.of_point-in-To.ensures
