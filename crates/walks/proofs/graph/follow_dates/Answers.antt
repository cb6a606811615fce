use Rattle.std.proofs.Common.{◌<◌, get_or, length, refl, arith}
use Rattle.std.proofs.lemmas.List.{get_or_default}
use Rattle.walks.specs.Graphs.{IsDateEdge, date_edge}
use Rattle.walks.proofs.DateLaws.{no_date}
use Rattle.walks.proofs.StateLaws.{follows_all, follows_more}
use Rattle.walks.proofs.graph.follow_dates.Goals as goal

pub loop-lower-preserved : goal.loop-lower-preserved
loop-lower-preserved c =
    let upper = c.args.upper in
    let lowers = c.args.lowers.now in
    let i = c.loop-lower.lower-index in
    let li : i < length lowers = omega arith in
    let lower = get_or lowers i no_date in
    let both = follows_more (date_edge upper) lowers (IsDateEdge upper lowers) c.args.head i no_date c.date_edge.result c.args.states.now c.loop-lower.states c.follow.new.self c.requires.head li c.date_edge.ensures
    (i, lower, li, get_or_default lowers i lower no_date li, refl) c.loop-lower.invariant.grown c.loop-lower.invariant.reached c.in_ok-follow.ensures.grown c.in_ok-follow.ensures.reached in
    record { grown = both.0; reached = both.1 }

pub returns-clause-reached : goal.returns-clause-reached
returns-clause-reached c = follows_all (date_edge c.args.upper) c.args.lowers.now (IsDateEdge c.args.upper c.args.lowers.now) c.args.head c.loop-lower.lower-index c.loop-lower.states (omega arith) c.loop-lower.invariant.reached
