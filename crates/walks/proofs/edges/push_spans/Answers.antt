use Rattle.std.proofs.Common.{◌≡◌, ℕ, subst, arith}
use Rattle.net_core.specs.Nets.{intervals}
use Rattle.net_core.specs.declared.step.Step.{Step}
use Rattle.net_core.specs.declared.step.Step.TheVariants.{Span}
use Rattle.walks.specs.Edges.{AddsEdges, IsSpan}
use Rattle.walks.proofs.EdgeLaws.{Below, adds_more, adds_none, adds_same, spans_all}
use Rattle.walks.proofs.edges.push_spans.Goals as goal

-- the step over a span
abbrev Spans : ℕ → Step → Type 0
Spans i step = step ≡ Span i

pub loop-interval-init : goal.loop-interval-init
loop-interval-init c = record { end = c.intervals-interval-end.ensures.count; so_far = adds_none c.args.net.now Spans c.args.edges.now.items }

pub loop-interval-preserved : goal.loop-interval-preserved
loop-interval-preserved c = record {
  end = c.loop-interval.invariant.end;
  so_far = adds_more c.args.net.now Spans c.loop-interval.interval c.args.edges.now.items c.loop-interval.edges.items c.push_step.new.edges.items c.loop-interval.invariant.so_far c.in_ok-push_step.ensures;
}

pub returns : goal.returns
returns c =
    let end : c.loop-interval.interval ≡ intervals c.args.net.now = omega arith in
    adds_same c.args.net.now (Below Spans (intervals c.args.net.now)) IsSpan c.args.edges.now.items c.loop-interval.edges.items (spans_all c.args.net.now)
    (subst (λ (n : ℕ). AddsEdges c.args.net.now (Below Spans n) c.args.edges.now.items c.loop-interval.edges.items) end c.loop-interval.invariant.so_far)
