use Rattle.std.proofs.Common.{◌≡◌}
use Rattle.net_core.specs.Nets.{intervals}
use Rattle.net_core.specs.declared.step.Step.TheVariants.{Span}
use Rattle.walks.specs.Edges.{AddsEdges}
use Rattle.walks.proofs.EdgeLaws.{Below}
use Rattle.walks.proofs.edges.push_spans.Given as goal

-- the spans so far are put
abbrev pub invariant-loop-interval : goal.invariant-loop-interval
invariant-loop-interval l = record {
  end : l.interval-end ≡ intervals l.net;
  so_far : AddsEdges l.net (Below (λ i step. step ≡ Span i) l.interval) l.fn.edges.items l.edges.items;
}
