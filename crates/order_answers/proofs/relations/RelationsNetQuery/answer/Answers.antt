use Rattle.std.proofs.Common.{arith}
use Rattle.net_build.proofs.Intervals.{as_many}
use Rattle.order_answers.proofs.Entailments.{shows_relations}
use Rattle.order_answers.proofs.relations.RelationsNetQuery.answer.Goals as goal

pub relations_text-requires : goal.relations_text-requires
relations_text-requires c = omega (arith, c.requires.closure.size, as_many c.args.document.now c.args._net.now c.requires.built)

pub returns : goal.returns
returns c =
    let rows = c.in_ok-relations_text.ensures in
    rw (c.done.ensures.finding, c.done.ensures.text) (shows_relations c.args.document.now c.args._net.now c.args.closure.now rows.0 _ c.requires.closure rows.1 rows.2)
