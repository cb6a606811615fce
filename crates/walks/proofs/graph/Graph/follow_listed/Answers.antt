use Rattle.std.proofs.Common.{ap, sym, subst, List, ℕ}
use Rattle.std.specs.List.{Contains}
use Rattle.net_core.specs.Nets.{points}
use Rattle.walks.specs.Edges.{AreEdgesFrom}
use Rattle.walks.specs.Graphs.{AreEdgesLeaving}
use Rattle.walks.specs.States.{entry_at}
use Rattle.walks.specs.declared.edges.Edge.{Edge}
use Rattle.walks.specs.declared.states.Entry.{Entry}
use Rattle.walks.proofs.GraphLaws.{leaving, listed_expanded}
use Rattle.walks.proofs.StateLaws.{grows_wider}
use Rattle.walks.proofs.graph.Graph.follow_listed.Goals as goal
use Rattle.walks.proofs.graph.Graph.follow_listed.Goals.{After-edges_from}

-- the edges are those of the graph that leave the point
from_graph : (c : After-edges_from) → AreEdgesFrom c.entry-point.result.point c.args.self.now.edges.items c.edges_from.result.now
from_graph c = subst (λ (all : List Edge). AreEdgesFrom c.entry-point.result.point all c.edges_from.result.now) c.deref.ensures.value c.edges_from.ensures

pub follow_edges-requires-clause-leaving : goal.follow_edges-requires-clause-leaving
follow_edges-requires-clause-leaving c =
    let edges = c.edges_from.result.now in
    let all = leaving c.args.net.now c.args.self.now c.requires.graph c.entry-point.result.point edges c.requires.net (from_graph c) in
    subst (λ (n : ℕ). AreEdgesLeaving (entry_at c.args.states.now.entries c.args.head).point n edges) (sym c.requires.points)
    (subst (λ (e : Entry). AreEdgesLeaving e.point (points c.args.net.now) edges) c.entry-point.ensures.entry all)

pub returns-clause-grown : goal.returns-clause-grown
returns-clause-grown c =
    let from = from_graph (goal.at.returns-clause-grown c).After-edges_from in
    grows_wider (Contains c.edges_from.result.now) (Contains c.args.self.now.edges.items) c.args.head c.args.states.now c.follow_edges.new.states (λ edge h. ((from edge).0 h).0) c.in_ok-follow_edges.ensures.grown

pub returns-clause-expanded : goal.returns-clause-expanded
returns-clause-expanded c =
    let from = from_graph (goal.at.returns-clause-expanded c).After-edges_from in
    listed_expanded c.args.net.now c.args.self.now c.requires.graph c.args.head c.entry-point.result.point c.edges_from.result.now c.args.states.now c.follow_edges.new.states c.requires.head
    (ap (λ (e : Entry). e.point) c.entry-point.ensures.entry) from c.in_ok-follow_edges.ensures.grown c.in_ok-follow_edges.ensures.reached
