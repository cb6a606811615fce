use Rattle.std.proofs.Common.{◌≡◌, ℕ, length, ap, sym, subst, ◌∙◌, false, true, arith}
use Rattle.net_core.specs.Walks.{Kept}
use Rattle.walks.specs.Edges.{AddsEdges, IsOver}
use Rattle.walks.proofs.EdgeLaws.{Below, OverKept, adds_more, adds_none, adds_nothing, adds_same, links_all}
use Rattle.walks.proofs.edges.push_links.Goals as goal
use Rattle.walks.proofs.edges.push_links.Goals.{then-keep-link+in_ok-push_link, else-keep-link}

pub loop-link-init : goal.loop-link-init
loop-link-init c = record { end = c.links-link-end.ensures.count; so_far = adds_none c.args.net.now (OverKept c.args.keep.now) c.args.edges.now.items }

pub loop-link-preserved : goal.loop-link-preserved
loop-link-preserved c =
    let net = c.args.net.now in
    let keep = c.args.keep.now in
    let link = c.loop-link.link in
    let mid = c.loop-link.edges.items in
    let new = c.if-keep-link.edges.items in
    record {
      end = c.loop-link.invariant.end;
      so_far = adds_more net (OverKept keep) link c.args.edges.now.items mid new c.loop-link.invariant.so_far (elim c.if-keep-link.branch [
        | then-keep-link+in_ok-push_link w ↦
            let is : new ≡ w.push_link.new.edges.items = ap (λ v. v.items) w.edges-is in
            subst (AddsEdges net (OverKept keep link) mid) (sym is) (adds_same net (IsOver (λ k. k ≡ link)) (OverKept keep link) mid w.push_link.new.edges.items (λ step atom goes. (λ over. (w.if-keep-link.true, over), λ h. h.1)) w.in_ok-push_link.ensures)
        | else-keep-link w ↦
            let is : new ≡ mid = ap (λ v. v.items) w.edges-is in
            subst (AddsEdges net (OverKept keep link) mid) (sym is) (adds_nothing net (OverKept keep link) mid (λ step h. let no : false ≡ true = sym w.if-keep-link.false ∙ h.0 in cc))
      ]);
    }

pub returns : goal.returns
returns c =
    let net = c.args.net.now in
    let keep = c.args.keep.now in
    let end : c.loop-link.link ≡ length net.links = omega arith in
    adds_same net (Below (OverKept keep) (length net.links)) (IsOver (Kept keep)) c.args.edges.now.items c.loop-link.edges.items (links_all net keep)
    (subst (λ (n : ℕ). AddsEdges net (Below (OverKept keep) n) c.args.edges.now.items c.loop-link.edges.items) end c.loop-link.invariant.so_far)
