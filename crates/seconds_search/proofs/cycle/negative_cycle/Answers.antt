use Rattle.std.proofs.Common.{◌≡◌, ◌∙◌, ℕ, ◌<◌, ap, length, map, reverse, subst, sym}
use Rattle.std.specs.List.{All}
use Rattle.seconds_core.specs.Cycles.{IsNegative}
use Rattle.seconds_search.specs.Edges.{edge_line}
use Rattle.seconds_search.specs.Relaxation.{IsClosedTrail}
use Rattle.seconds_search.proofs.Trails.{closed_is_negative, trail_inside}
use Rattle.seconds_search.proofs.cycle.negative_cycle.Goals as goal

pub lines_of-requires : goal.lines_of-requires
lines_of-requires c =
    let edges = c.args.edges.now in
    let d = c.args.distances.now in
    let trail = c.in-Some.trail.items in
    let found : (p : ℕ) × IsClosedTrail edges d trail p = rw c.in-Some.is at c.in_ok-trail.ensures in
    subst (All (λ (e : ℕ). e < length edges)) (sym c.deref.ensures.value) (trail_inside edges d c.requires.relaxed trail found.0 found.0 found.1.back)

pub returns-clause-negative : goal.returns-clause-negative
returns-clause-negative c = λ timed named.
    let edges = c.args.edges.now in
    let d = c.args.distances.now in
    let trail = c.in-Some.trail.items in
    let found : (p : ℕ) × IsClosedTrail edges d trail p = rw c.in-Some.is at c.in_ok-trail.ensures in
    let lines : c.from_vec.result ≡ reverse (map (edge_line edges) trail) = c.from_vec.ensures ∙ c.reverse.ensures.items ∙ ap reverse (c.in_ok-lines.ensures ∙ ap (map (edge_line edges)) c.deref.ensures.value) in
    subst (IsNegative timed) (sym lines) (closed_is_negative timed edges d c.requires.relaxed named trail found.0 found.1)
