use Rattle.std.proofs.Common.{sym, subst, arith}
use Rattle.std.proofs.lemmas.Int.{ints}
use Rattle.seconds_check.specs.Following.{LinesStopAt}
use Rattle.net_core.proofs.FirstLaws.{none_given}
use Rattle.seconds_check.proofs.Following.{followed_more, stops_here}
use Rattle.seconds_check.proofs.cycle.follow.Goals as goal

pub returns-in_default-clause-err : goal.returns-in_default-clause-err
returns-in_default-clause-err c =
    let timed = c.args.timed.now in
    let lines = c.args.lines.now in
    let i = c.loop-line.line-index in
    let so_far = c.loop-line.invariant.so_far in
    subst (LinesStopAt timed c.args.from lines) (sym c.loop-line.invariant.number) (
      omega (arith, c.loop-line-test.true),
      (c.loop-line.at, so_far.joined),
      stops_here timed lines i c.args.from c.loop-line.at _ (omega (arith, c.loop-line-test.true)) so_far
          (none_given c.next_of.result c.in_default.not-Some c.next_of.ensures.none),
    )

pub loop-line-preserved : goal.loop-line-preserved
loop-line-preserved c =
    let so_far = c.loop-line.invariant.so_far in
    let within = c.in-Some.ensures.within in
    record {
      number = omega (arith, c.loop-line.invariant.number);
      so_far = followed_more c.args.timed.now c.args.lines.now c.loop-line.line-index c.args.from c.loop-line.at _ _ c.in-Some.next
          (omega (arith, c.loop-line-test.true)) so_far c.in-Some.ensures.some c.in-Some.ensures.begins within
          (omega (arith, ints, so_far.low, so_far.high, within.low, within.high, c.plus-sum.ensures));
    }
