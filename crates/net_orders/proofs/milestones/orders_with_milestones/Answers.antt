use Rattle.std.proofs.Common.{List, drop, length, subst, sym, arith}
use Rattle.std.specs.List.Sorted.{IsPermutation}
use Rattle.std.proofs.lemmas.List.{take_at}
use Rattle.std.proofs.lemmas.List.Sorted.{length_permutation}
use Rattle.net_core.specs.declared.atom.Atom.{Atom}
use Rattle.net_orders.specs.Milestones.{AreWithMilestones}
use Rattle.net_orders.specs.Steps.{KeepsDates, KeepsSpans}
use Rattle.net_orders.proofs.MilestoneLaws.{says_permuted}
use Rattle.net_orders.proofs.milestones.orders_with_milestones.Goals as goal

pub returns : goal.returns
returns c =
    let net = c.args.net.now in
    let orders = c.in_ok-orders.orders in
    let new = c.sort_by_places.new.orders in
    let moved = subst (λ (xs : List Atom). IsPermutation xs new) c.deref_mut.ensures.value c.sort_by_places.ensures in
    let whole = take_at new (drop (length new) orders.items) orders.len (omega (arith, length_permutation c.deref_mut.result.now new c.sort_by_places.ensures, c.deref_mut.ensures.len)) in
    subst (AreWithMilestones net) (sym whole) (says_permuted net (λ t. KeepsSpans net t × KeepsDates net t) orders.items new moved c.in_ok-orders.ensures)
