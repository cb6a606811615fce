use Rattle.std.proofs.Common.{sym, subst}
use Rattle.tml_score.specs.Graph.{AreOfPoint, by_end}
use Rattle.tml_score.proofs.graph.Graph.of_point.Goals as goal

pub returns-in-From : goal.returns-in-From
returns-in-From c = subst (λ e. AreOfPoint (by_end e c.args.self.now) c.args.point c.of_point.result.now) (sym c.in-From.is) c.of_point.ensures

pub returns-in-To : goal.returns-in-To
returns-in-To c = subst (λ e. AreOfPoint (by_end e c.args.self.now) c.args.point c.of_point-in-To.result.now) (sym c.in-To.is) c.of_point-in-To.ensures
