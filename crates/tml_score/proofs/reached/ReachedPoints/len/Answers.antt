use Rattle.std.proofs.Common.{ap, arith}
use Rattle.tml_score.proofs.ReachedLaws.{few_placed}
use Rattle.tml_score.proofs.reached.ReachedPoints.len.Goals as goal

pub returns-clause-few : goal.returns-clause-few
returns-clause-few c = omega (arith, few_placed c.self.inside.points.items c.self.inside.places.items c.self.invariant, ap (λ v. v.room) c.self.view_is, c.len.ensures)
