use Rattle.std.specs.List.{Contains}
use Rattle.walks.specs.Graphs.{IsCalendarWay, IsWay}
use Rattle.walks.specs.States.{StatesGrow, IsExpanded}
use Rattle.walks.proofs.GraphLaws.{expanded_then}
use Rattle.walks.proofs.graph.Graph.expand.Goals as goal
use Rattle.walks.proofs.graph.Graph.expand.Goals.{In_ok-follow_calendar}

both : (c : In_ok-follow_calendar) → StatesGrow (IsWay c.args.net.now c.args.self.now) c.args.head c.args.states.now c.follow_calendar.new.states × IsExpanded (IsWay c.args.net.now c.args.self.now) c.follow_calendar.new.states.entries c.args.head
both c = expanded_then (Contains c.args.self.now.edges.items) (IsCalendarWay c.args.net.now) c.args.head c.args.states.now c.follow_listed.new.states c.follow_calendar.new.states c.requires.head
    c.in_ok-follow_listed.ensures.grown c.in_ok-follow_listed.ensures.expanded c.in_ok-follow_calendar.ensures.grown c.in_ok-follow_calendar.ensures.expanded

pub returns-clause-grown : goal.returns-clause-grown
returns-clause-grown c = (both c).0

pub returns-clause-expanded : goal.returns-clause-expanded
returns-clause-expanded c = (both c).1
