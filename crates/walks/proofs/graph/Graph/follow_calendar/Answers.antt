use Rattle.std.proofs.Common.{◌≡◌, ℕ, FitsSigned, of_z, to_z, w64, List, Some, ap, sym, subst, ◌∙◌, rules}
use Rattle.std.proofs.lemmas.Int.{to_z-of_z}
use Rattle.net_core.specs.Nets.{upper}
use Rattle.walks.specs.Dates.{AreDatesBelow, AreDatesFrom}
use Rattle.walks.specs.Graphs.{IsCalendarWay, IsDateEdge}
use Rattle.walks.specs.declared.dates.Date.{Date}
use Rattle.walks.specs.declared.states.Entry.{Entry}
use Rattle.walks.proofs.GraphLaws.{date_ways, dates_below, dates_expanded, none_expanded}
use Rattle.walks.proofs.StateLaws.{grows_wider}
use Rattle.walks.proofs.graph.Graph.follow_calendar.Goals as goal
use Rattle.walks.proofs.graph.Graph.follow_calendar.Goals.{After-dates_from}

-- the point with its upper number
abbrev first : After-dates_from → Date
first c = record { number = to_z w64 (of_z w64 c.in-Some.number); point = c.entry-point.result.point }

-- the net has that number
is_upper : (c : After-dates_from) → upper c.args.net.now (first c).point ≡ Some (first c).number
is_upper c =
    let fits : FitsSigned w64 c.in-Some.number = search rules in
    sym c.upper.ensures ∙ c.in-Some.is ∙ ap Some (sym (to_z-of_z w64 c.in-Some.number fits))

-- the dates are those of the graph from the number on
from_graph : (c : After-dates_from) → AreDatesFrom (first c).number c.args.self.now.lowers.items c.dates_from.result.now
from_graph c = subst (λ (all : List Date). AreDatesFrom (first c).number all c.dates_from.result.now) c.deref.ensures.value c.dates_from.ensures.dates

pub follow_dates-requires-clause-lowers : goal.follow_dates-requires-clause-lowers
follow_dates-requires-clause-lowers c =
    subst (λ (n : ℕ). AreDatesBelow n c.dates_from.result.now) (sym c.requires.points) (dates_below c.args.net.now c.args.self.now c.requires.graph (first c).number c.dates_from.result.now (from_graph c))

pub returns-in_default-clause-expanded : goal.returns-in_default-clause-expanded
returns-in_default-clause-expanded c = none_expanded c.args.net.now c.args.head c.args.states.now.entries (ap (λ (e : Entry). upper c.args.net.now e.point) (sym c.entry-point.ensures.entry) ∙ sym c.upper.ensures ∙ c.in_default.is)

pub returns-clause-grown : goal.returns-clause-grown
returns-clause-grown c =
    let a = (goal.at.returns-clause-grown c).After-dates_from in
    let lowers = c.dates_from.result.now in
    grows_wider (IsDateEdge (first a) lowers) (IsCalendarWay c.args.net.now) c.args.head c.args.states.now c.follow_dates.new.states
    (date_ways c.args.net.now c.args.self.now c.requires.graph (first a) lowers (is_upper a) (from_graph a)) c.in_ok-follow_dates.ensures.grown

pub returns-clause-expanded : goal.returns-clause-expanded
returns-clause-expanded c =
    let a = (goal.at.returns-clause-expanded c).After-dates_from in
    dates_expanded c.args.net.now c.args.self.now c.requires.graph c.args.head (first a) c.dates_from.result.now c.args.states.now c.follow_dates.new.states c.requires.net c.requires.head
    (ap (λ (e : Entry). e.point) c.entry-point.ensures.entry) (is_upper a) (from_graph a) c.in_ok-follow_dates.ensures.grown c.in_ok-follow_dates.ensures.reached
