use Rattle.std.proofs.Common.{◌<◌, get_or, length, refl, arith}
use Rattle.std.specs.List.{Contains}
use Rattle.std.proofs.lemmas.List.Elements.{Contains-get_or}
use Rattle.walks.specs.declared.edges.Edge.{Edge}
use Rattle.walks.proofs.EdgeLaws.{no_edge}
use Rattle.walks.proofs.StateLaws.{follows_all, follows_more}
use Rattle.walks.proofs.graph.follow_edges.Goals as goal

pub loop-edge-preserved : goal.loop-edge-preserved
loop-edge-preserved c =
    let edges = c.args.edges.now in
    let i = c.loop-edge.edge-index in
    let li : i < length edges = omega arith in
    let both = follows_more (λ (edge : Edge). edge) edges (Contains edges) c.args.head i no_edge (get_or edges i no_edge) c.args.states.now c.loop-edge.states c.follow.new.self c.requires.head li refl
    (Contains-get_or edges i no_edge li) c.loop-edge.invariant.grown c.loop-edge.invariant.reached c.in_ok-follow.ensures.grown c.in_ok-follow.ensures.reached in
    record { grown = both.0; reached = both.1 }

pub returns-clause-reached : goal.returns-clause-reached
returns-clause-reached c = follows_all (λ (edge : Edge). edge) c.args.edges.now (Contains c.args.edges.now) c.args.head c.loop-edge.edge-index c.loop-edge.states (omega arith) c.loop-edge.invariant.reached
