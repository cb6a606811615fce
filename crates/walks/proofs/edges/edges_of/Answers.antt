use Rattle.std.proofs.Common.{rules}
use Rattle.std.proofs.lemmas.List.Sorted.{IsNonDecreasingBy-from_sort_by_key}
use Rattle.net_core.specs.Walks.{Kept}
use Rattle.walks.specs.Edges.{IsOver, IsSpan}
use Rattle.walks.specs.declared.edges.Edge.{Edge}
use Rattle.walks.proofs.EdgeLaws.{adds_then, edges_sorted}
use Rattle.walks.proofs.edges.edges_of.Goals as goal

pub returns-clause-edges : goal.returns-clause-edges
returns-clause-edges c =
    let net = c.args.net.now in
    let keep = c.args.keep.now in
    let old = c.new-edges.result.items in
    let mid = c.push_spans.new.edges.items in
    let new = c.push_links.new.edges.items in
    edges_sorted net keep old new c.sort_unstable_by_key.new.self.items c.new-edges.ensures.items
    (adds_then net IsSpan (IsOver (Kept keep)) old mid new c.in_ok-push_spans.ensures c.in_ok-push_links.ensures) c.sort_unstable_by_key.ensures.permutation

pub returns-clause-sorted : goal.returns-clause-sorted
returns-clause-sorted c = IsNonDecreasingBy-from_sort_by_key (λ (edge : Edge). edge.atom.from) _ c.sort_unstable_by_key.ensures.sorted (λ a r q k. search rules)
