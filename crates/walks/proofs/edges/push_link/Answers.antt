use Rattle.std.proofs.Common.{◌≡◌, ℕ, subst, ap, ◌∙◌, arith}
use Rattle.net_core.specs.Atoms.{atom_count}
use Rattle.net_core.specs.Nets.{link_at}
use Rattle.net_core.specs.declared.net.NetLink.{NetLink}
use Rattle.net_core.specs.declared.step.Step.{Step}
use Rattle.net_core.specs.declared.step.Step.TheVariants.{Link}
use Rattle.walks.specs.Edges.{AddsEdges, IsOver}
use Rattle.walks.proofs.EdgeLaws.{Below, adds_more, adds_none, adds_same, atoms_all}
use Rattle.walks.proofs.edges.push_link.Goals as goal

-- the step over an order of a link
abbrev Orders : ℕ → ℕ → Step → Type 0
Orders link i step = step ≡ Link link i

pub loop-atom-init : goal.loop-atom-init
loop-atom-init c = record { end = c.atom_count-count.ensures.count ∙ ap (λ (l : NetLink). atom_count l.rel) c.link.ensures.link; so_far = adds_none c.args.net.now (Orders c.args.link) c.args.edges.now.items }

pub loop-atom-preserved : goal.loop-atom-preserved
loop-atom-preserved c = record {
  end = c.loop-atom.invariant.end;
  so_far = adds_more c.args.net.now (Orders c.args.link) c.loop-atom.atom c.args.edges.now.items c.loop-atom.edges.items c.push_step.new.edges.items c.loop-atom.invariant.so_far c.in_ok-push_step.ensures;
}

pub returns : goal.returns
returns c =
    let net = c.args.net.now in
    let count = atom_count (link_at net c.args.link).rel in
    let end : c.loop-atom.atom ≡ count = omega arith in
    adds_same net (Below (Orders c.args.link) count) (IsOver (λ k. k ≡ c.args.link)) c.args.edges.now.items c.loop-atom.edges.items (atoms_all net c.args.link)
    (subst (λ (n : ℕ). AddsEdges net (Below (Orders c.args.link) n) c.args.edges.now.items c.loop-atom.edges.items) end c.loop-atom.invariant.so_far)
