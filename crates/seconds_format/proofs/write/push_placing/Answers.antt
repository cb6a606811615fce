use Rattle.std.proofs.Common.{arith}
use Rattle.std.proofs.lemmas.Grind.{common_steps}
use Rattle.seconds_format.proofs.PairLaws.{pairs_half}
use Rattle.seconds_format.proofs.write.push_placing.Goals as goal

pub returns-clause-bytes : goal.returns-clause-bytes
returns-clause-bytes c =
    let half = pairs_half c.args.seconds.now c.requires.0 in
    let before = c.in_ok-push_one.ensures in
    let after = c.push_pairs.ensures.bytes in
    grind (arith, common_steps, half, before, after)
