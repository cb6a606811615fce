use Rattle.order_answers.proofs.Timelines.{shows_timeline}
use Rattle.order_answers.proofs.solve.SolveNetQuery.answer.Goals as goal

pub returns : goal.returns
returns c = rw (c.done.ensures.finding, c.done.ensures.text) (shows_timeline c.args.net.now c.args.closure.now _ c.requires.closure c.in_ok-least_text.ensures)
