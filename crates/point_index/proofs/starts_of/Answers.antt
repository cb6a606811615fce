use Rattle.std.proofs.Common.{◌≡◌, ℕ, ◌+◌, ◌++◌, ◌∷◌, [], nat_lt, refl, subst, arith, rules}
use Rattle.std.proofs.lemmas.List.Sorted.{IsPartitionPoint-from_clause, IsPartitionedBy-ltb}
use Rattle.point_index.proofs.Starts.{IsCut, AreCuts, cuts_are_starts, no_cuts, one_cut_more}
use Rattle.point_index.proofs.starts_of.Goals as goal

pub loop-point-init : goal.loop-point-init
loop-point-init g c = record { end = refl; cuts = no_cuts (g.P.PointOf.point_of c.args.by) c.args.items.now c.new-starts.result.items c.new-starts.ensures.items }

pub loop-point-preserved : goal.loop-point-preserved
loop-point-preserved g c =
    let key = g.P.PointOf.point_of c.args.by in
    let items = c.args.items.now in
    let point = c.loop-point.point-counter in
    let place = c.partition_point-start.result in
    let pushed : c.push.new.self.items ≡ c.loop-point.starts.items ++ place ∷ [] = search rules in
    let cut : IsCut key items point place = IsPartitionPoint-from_clause (λ item. nat_lt (key item) point) items place c.partition_point-start.ensures.partitioned (IsPartitionedBy-ltb key items point c.requires.sorted) (λ a r q k. search rules) in
    record {
      end = c.loop-point.invariant.end;
      cuts = one_cut_more key items point place c.loop-point.starts.items c.push.new.self.items c.loop-point.invariant.cuts cut c.partition_point-start.ensures.bound pushed;
    }

pub returns-clause-size : goal.returns-clause-size
returns-clause-size g c = omega (arith, c.loop-point.invariant.cuts.size, c.loop-point-test.false, c.loop-point.auto.point-counter-end)

pub returns-clause-starts : goal.returns-clause-starts
returns-clause-starts g c =
    let key = g.P.PointOf.point_of c.args.by in
    let all : c.loop-point.point-counter ≡ c.args.points + 1 = omega (arith, c.loop-point-test.false, c.loop-point.auto.point-counter-end) in
    cuts_are_starts key c.args.items.now c.args.points c.loop-point.starts.items (subst (λ (n : ℕ). AreCuts key c.args.items.now n c.loop-point.starts.items) all c.loop-point.invariant.cuts)
