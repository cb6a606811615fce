use Rattle.std.proofs.Common.{arith}
use Rattle.net_build.proofs.Intervals.{as_many}
use Rattle.possible_answers.proofs.PossibleAnswered.{shows_items}
use Rattle.possible_answers.proofs.possible.IntervalsNetQuery.answer.Goals as goal

pub items_text-requires-clause-a : goal.items_text-requires-clause-a
items_text-requires-clause-a c = omega (arith, c.requires.asked.0, as_many c.args._document.now c.args._net.now c.requires.built, c.requires.closure.size)

pub items_text-requires-clause-b : goal.items_text-requires-clause-b
items_text-requires-clause-b c = omega (arith, c.requires.asked.1, as_many c.args._document.now c.args._net.now c.requires.built, c.requires.closure.size)

pub returns : goal.returns
returns c = rw (c.done.ensures.finding, c.done.ensures.text) (shows_items c.args._document.now c.args._net.now c.args.closure.now c.args.self.now.a c.args.self.now.b _ c.requires.closure c.in_ok-items_text.ensures)
