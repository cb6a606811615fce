use Rattle.std.proofs.Common.{sym, subst, arith}
use Rattle.evidence_check.specs.Following.{StepsStopAt}
use Rattle.net_core.proofs.FirstLaws.{none_given}
use Rattle.evidence_check.proofs.Proving.{followed_more, stops_here}
use Rattle.evidence_check.proofs.walks.follow.Goals as goal

pub returns-in_default-clause-err : goal.returns-in_default-clause-err
returns-in_default-clause-err c =
    let net = c.args.net.now in
    let steps = c.args.steps.now in
    let i = c.loop-step.step-index in
    let so_far = c.loop-step.invariant.so_far in
    subst (StepsStopAt net c.args.from steps) (sym c.loop-step.invariant.number) (
      omega (arith, c.loop-step-test.true),
      (c.loop-step.at, so_far.joined),
      stops_here net steps i c.args.from c.loop-step.at c.loop-step.strict (omega (arith, c.loop-step-test.true)) so_far
          (none_given c.next_of.result c.in_default.not-Some c.next_of.ensures.none),
    )

pub loop-step-preserved : goal.loop-step-preserved
loop-step-preserved c = record {
  number = omega (arith, c.loop-step.invariant.number);
  so_far = followed_more c.args.net.now c.args.steps.now c.loop-step.step-index c.args.from c.loop-step.at c.loop-step.strict c.either-strict.result c.in-Some.next
      (omega (arith, c.loop-step-test.true)) c.loop-step.invariant.so_far c.in-Some.ensures.some c.in-Some.ensures.begins c.either-strict.ensures;
}
