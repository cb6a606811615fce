use Rattle.order_answers.proofs.WalkProofs.{walk_exists, walk_proves}
use Rattle.order_answers.proofs.ask.proving.walk_for.Goals as goal

pub unreachable-requires : goal.unreachable-requires
unreachable-requires c =
    let none = rw c.in-None.is at c.in_ok-steps.ensures.none in
    none (walk_exists c.args.net.now c.args.keep.now c.requires.all c.args.atom c.requires.net c.requires.range c.requires.fits c.requires.always)

pub returns-clause-proof : goal.returns-clause-proof
returns-clause-proof c =
    let some = rw c.in-Some.is at c.in_ok-steps.ensures.some in
    walk_proves c.args.net.now c.args.keep.now c.args.atom c.in-Some.steps some.0
