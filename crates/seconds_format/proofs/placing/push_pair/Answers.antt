use Rattle.std.proofs.Common.{arith}
use Rattle.std.proofs.lemmas.Int.{to_z-of_z}
use Rattle.seconds_format.proofs.PairLaws.{pairs_push}
use Rattle.seconds_format.proofs.placing.push_pair.Goals as goal

pub returns-clause-pairs : goal.returns-clause-pairs
returns-clause-pairs c = grind (arith, to_z-of_z, pairs_push c.args.seconds.now c.args.start c.args.finish c.requires, c.in_ok-push.ensures.ok)
