use Rattle.std.proofs.Common.{sym, ◌∙◌, arith}
use Rattle.walks.proofs.SearchLaws.{found_walk, no_walk}
use Rattle.walks.proofs.search.walk.Goals as goal

pub returns-in-Some-clause-some : goal.returns-in-Some-clause-some
returns-in-Some-clause-some c =
    let searched = c.in_ok-states.ensures in
    let path = c.in_ok-trace-in-Some.ensures.trace in (
      found_walk c.args.net.now c.args.keep.now c.in_ok-graph.graph c.in_ok-graph.ensures.edges c.args.from c.args.to c.args.strict c.in_ok-states.states searched
          c.in-Some.last path.0 c.in_ok-trace-in-Some.field-0 (sym c.find.ensures ∙ c.in-Some.is) path.1 path.2 path.3,
      omega (arith, c.in_ok-trace-in-Some.ensures.few, searched.points),
    )

pub returns-clause-none : goal.returns-clause-none
returns-clause-none c = no_walk c.args.net.now c.args.keep.now c.in_ok-graph.graph c.in_ok-graph.ensures.edges c.args.from c.args.to c.args.strict c.in_ok-states.states c.in_ok-states.ensures (sym c.find.ensures ∙ c.in-None.is)
