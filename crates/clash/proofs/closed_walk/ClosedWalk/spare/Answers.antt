use Rattle.std.proofs.Common.{◌≡◌, ◌*◌, ◌∙◌, ℕ, List, drop, length, replicate, take, false, true, sym, ap, subst, arith}
use Rattle.std.proofs.lemmas.List.{take_at}
use Rattle.net_core.specs.Least.{IsSpare}
use Rattle.net_core.specs.Nets.{points}
use Rattle.net_core.specs.Ranks.{timeline_of}
use Rattle.net_core.specs.Walks.{Kept}
use Rattle.net_orders.specs.Orders.{FitsBut}
use Rattle.net_orders.specs.Raising.{RanksRise}
use Rattle.net_orders.specs.declared.orders.Order.{Order}
use Rattle.net_orders.proofs.RankSums.{sum_bounded}
use Rattle.clash.proofs.Spared.{low_from_zeros, spare_from_zeros, zeros_ready}
use Rattle.clash.proofs.closed_walk.ClosedWalk.spare.Goals as goal
use Rattle.clash.proofs.closed_walk.ClosedWalk.spare.Goals.{After-deref_mut, In_ok-settle_without}

-- the ranks that rise are zeros
zeros : (c : After-deref_mut) → c.deref_mut.result.now ≡ replicate (2 * points c.args.net.now) 0
zeros c = c.deref_mut.ensures.value ∙ c.in_ok-ranks.ensures.items_if_clones_equal (λ y e. e) ∙ ap (λ (n : ℕ). replicate (2 * (2 * n)) 0) c.intervals.ensures.count

pub settle_without-requires : goal.settle_without-requires
settle_without-requires c =
    let ready = zeros_ready c.args.net.now c.args.self.now c.args.fixed.now c.as_slice.result.now c.deref_mut.result.now c.intervals.ensures.net c.requires.closed c.requires.fixed c.as_slice.ensures (zeros c) in
    record { orders = ready.0; fixed = ready.1; few = ready.2; within = ready.3 }

-- and rise by the orders of the closed walk
rises : (c : In_ok-settle_without) → RanksRise (FitsBut c.args.self.now.orders c.args.fixed.now c.args.omitted) c.deref_mut.result.now c.settle_without.new.ranks
rises c = subst (λ (orders : List Order). RanksRise (FitsBut orders c.args.fixed.now c.args.omitted) c.deref_mut.result.now c.settle_without.new.ranks) c.as_slice.ensures c.in_ok-settle_without.ensures.rises

pub returns-then-branch-clause-some : goal.returns-then-branch-clause-some
returns-then-branch-clause-some c =
    let net = c.args.net.now in
    let here = (goal.at.returns-then-branch-clause-some c).In_ok-settle_without in
    let before = (goal.at.returns-then-branch-clause-some c).After-deref_mut in
    let new = c.settle_without.new.ranks in
    let risen = rises here in
    let whole = take_at new (drop (length new) c.in_ok-ranks.ranks.items) c.in_ok-ranks.ranks.len (omega (arith, risen.size, c.deref_mut.ensures.len)) in
    let spare = spare_from_zeros net c.args.self.now c.args.fixed.now c.args.omitted c.intervals.ensures.net c.requires.closed c.requires.fixed c.deref_mut.result.now new (zeros before) risen
    (subst (λ (orders : List Order). FitsBut orders c.args.fixed.now c.args.omitted (timeline_of new)) c.as_slice.ensures (c.in_ok-settle_without.ensures.fits c.if-branch.true)) in
    let cut : c.from_vec.result ≡ take (points net) new =
    c.from_vec.ensures ∙ (c.truncate.ensures.items ∙ (ap (λ (xs : List ℕ). take (2 * c.intervals.result) xs) whole ∙ ap (λ (n : ℕ). take (2 * n) new) c.intervals.ensures.count)) in
    subst (IsSpare net (Kept c.args.self.now.over.items) c.args.omitted) (sym cut) spare

pub returns-else-branch-clause-none : goal.returns-else-branch-clause-none
returns-else-branch-clause-none c most spared =
    let here = (goal.at.returns-else-branch-clause-none c).In_ok-settle_without in
    let before = (goal.at.returns-else-branch-clause-none c).After-deref_mut in
    let ready = zeros_ready c.args.net.now c.args.self.now c.args.fixed.now c.as_slice.result.now c.deref_mut.result.now c.intervals.ensures.net c.requires.closed c.requires.fixed c.as_slice.ensures (zeros before) in
    let risen = rises here in
    let low = low_from_zeros c.args.net.now c.args.self.now c.args.fixed.now c.args.omitted c.intervals.ensures.net c.requires.closed c.requires.fixed c.deref_mut.result.now c.settle_without.new.ranks (zeros before) risen spared in
    let many = c.in_ok-settle_without.ensures.stuck (λ is. let both : false ≡ true = sym c.if-branch.false ∙ is in cc) low in
    let few = sum_bounded c.settle_without.new.ranks (risen.within ready.3) in
    let size = risen.size in
    omega (arith, ready.2, most)
