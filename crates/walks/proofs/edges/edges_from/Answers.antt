use Rattle.std.proofs.Common.{◌-◌, List, sym, subst, length, nat_le, nat_lt, take, drop, rules}
use Rattle.std.specs.List.Sorted.{IsNonDecreasingBy}
use Rattle.std.proofs.lemmas.List.{take_rest}
use Rattle.std.proofs.lemmas.List.Sorted.{IsNonDecreasingBy-drop, IsPartitionPoint-from_clause, IsPartitionedBy-leb, IsPartitionedBy-ltb}
use Rattle.walks.specs.declared.edges.Edge.{Edge}
use Rattle.walks.proofs.Parts.{between}
use Rattle.walks.proofs.edges.edges_from.Goals as goal

pub returns : goal.returns
returns c =
    let edges = c.args.edges.now in
    let point = c.args.point in
    let first = c.partition_point-first.result in
    let count = c.partition_point-count.result in
    let rest = take (length edges - first) (drop first edges) in
    let same = take_rest edges first in
    let sorted = subst (λ (xs : List Edge). IsNonDecreasingBy (λ (edge : Edge). edge.atom.from) xs) (sym same) (IsNonDecreasingBy-drop (λ (edge : Edge). edge.atom.from) first edges c.requires) in
    between (λ (edge : Edge). edge.atom.from) point edges rest first count same
    (IsPartitionPoint-from_clause (λ (edge : Edge). nat_lt edge.atom.from point) edges first c.partition_point-first.ensures.partitioned
    (IsPartitionedBy-ltb (λ (edge : Edge). edge.atom.from) edges point c.requires) (λ a r q k. search rules))
    (IsPartitionPoint-from_clause (λ (edge : Edge). nat_le edge.atom.from point) rest count c.partition_point-count.ensures.partitioned
    (IsPartitionedBy-leb (λ (edge : Edge). edge.atom.from) rest point sorted) (λ a r q k. search rules))
