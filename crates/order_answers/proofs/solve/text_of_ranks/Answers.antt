use Rattle.std.proofs.Common.{List, ℕ, Option, subst}
use Rattle.std.specs.Prelude.{IfSome}
use Rattle.net_core.specs.Least.{AreLeastRanks}
use Rattle.order_answers.proofs.Fitting.{least_below}
use Rattle.order_answers.proofs.Timelines.{shows_least}
use Rattle.order_answers.proofs.solve.text_of_ranks.Goals as goal
use Rattle.order_answers.proofs.solve.text_of_ranks.Goals.{In-Some}

-- the ranks are the least that fit
least : (c : In-Some) → AreLeastRanks c.args.net.now c.in-Some.ranks
least c = subst (λ (o : Option (List ℕ)). IfSome o (AreLeastRanks c.args.net.now)) c.in-Some.is c.in_ok-ranks.ensures

pub timeline_text-requires-clause-small : goal.timeline_text-requires-clause-small
timeline_text-requires-clause-small c = least_below c.args.net.now c.intervals.ensures.net c.in-Some.ranks (least (goal.at.timeline_text-requires-clause-small c).In-Some)

pub returns-in_ok-timeline_text-in-Some : goal.returns-in_ok-timeline_text-in-Some
returns-in_ok-timeline_text-in-Some c =
    let text = c.in_ok-timeline_text-in-Some.field-0.items in
    shows_least c.args.net.now c.in-Some.ranks text (least (goal.at.returns-in_ok-timeline_text-in-Some c).In-Some)
    c.in_ok-timeline_text-in-Some.ensures.text c.in_ok-timeline_text-in-Some.ensures.short
