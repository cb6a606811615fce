use Rattle.std.proofs.Common.{ap, arith}
use Rattle.walks.proofs.StateLaws.{few_entries}
use Rattle.walks.proofs.states.States.len.Goals as goal

pub returns-clause-few : goal.returns-clause-few
returns-clause-few c = omega (arith, few_entries c.self.inside.entries.items c.self.inside.seen.items c.self.invariant, ap (λ v. v.points) c.self.view_is)
