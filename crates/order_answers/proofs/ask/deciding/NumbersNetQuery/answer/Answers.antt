use Rattle.std.proofs.Common.{arith}
use Rattle.net_build.proofs.Intervals.{as_many}
use Rattle.order_answers.proofs.ask.deciding.NumbersNetQuery.answer.Goals as goal

pub decide-requires-clause-intervals : goal.decide-requires-clause-intervals
decide-requires-clause-intervals c =
    let same = as_many c.args._document.now c.args.net.now c.requires.built in
    let asked = c.requires.asked in
    (omega (arith, asked.0, same), omega (arith, asked.1, same))

pub returns : goal.returns
returns c = rw (c.done.ensures.finding, c.done.ensures.text) c.in_ok-decide.ensures
