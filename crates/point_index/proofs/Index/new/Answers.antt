use Rattle.std.proofs.Common.{◌≡◌, ℕ, ◌-◌, length, sym, subst, arith, rules}
use Rattle.std.proofs.lemmas.List.Sorted.{IsNonDecreasingBy-from_sort_by_key}
use Rattle.point_index.specs.Index.{AreSorted, AreStarts}
use Rattle.point_index.proofs.Index.new.Goals as goal

pub starts_of-requires-clause-sorted : goal.starts_of-requires-clause-sorted
starts_of-requires-clause-sorted g c =
    let point_of = g.P.PointOf.point_of c.args.by in
    subst (AreSorted point_of) (sym c.deref.ensures.value) (IsNonDecreasingBy-from_sort_by_key point_of _ c.sort_unstable_by_key.ensures.sorted (λ a r q k. search rules))

pub invariant_of-result : goal.invariant_of-result
invariant_of-result g c =
    let point_of = g.P.PointOf.point_of c.args.by in
    let starts = c.in_ok-starts.starts.items in
    let count : c.args.points ≡ length starts - 1 = omega (arith, c.in_ok-starts.ensures.size) in
    subst (λ (n : ℕ). AreStarts point_of n c.sort_unstable_by_key.new.self.items starts) count (subst (λ items. AreStarts point_of c.args.points items starts) c.deref.ensures.value c.in_ok-starts.ensures.starts)
