use Rattle.std.proofs.Common.{◌≡◌}
use Rattle.net_core.specs.Atoms.{atom_count}
use Rattle.net_core.specs.Nets.{link_at}
use Rattle.net_core.specs.declared.step.Step.TheVariants.{Link}
use Rattle.walks.specs.Edges.{AddsEdges}
use Rattle.walks.proofs.EdgeLaws.{Below}
use Rattle.walks.proofs.edges.push_link.Given as goal

-- the orders so far are put
abbrev pub invariant-loop-atom : goal.invariant-loop-atom
invariant-loop-atom l = record {
  end : l.count ≡ atom_count (link_at l.net l.link).rel;
  so_far : AddsEdges l.net (Below (λ i step. step ≡ Link l.link i) l.atom) l.fn.edges.items l.edges.items;
}
