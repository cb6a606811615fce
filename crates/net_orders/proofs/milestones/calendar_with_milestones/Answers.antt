use Rattle.std.proofs.Common.{◌≡◌, ◌+◌, ◌*◌, ◌<◌, ℕ, List, length, ap, subst, sym}
use Rattle.std.specs.List.{All}
use Rattle.std.proofs.lemmas.List.Elements.{All-nil}
use Rattle.net_core.specs.Atoms.{Satisfies}
use Rattle.net_core.specs.Nets.{points}
use Rattle.net_core.specs.declared.atom.Atom.{Atom}
use Rattle.order_closure.specs.Tables.{SatisfiesAll}
use Rattle.walks.specs.declared.dates.Date.{Date}
use Rattle.net_orders.specs.Dates.{ExtendsOrders}
use Rattle.net_orders.specs.Milestones.{ArePlacedBefore, IsAtMost, IsBeforeNext}
use Rattle.net_orders.proofs.MilestoneLaws.{dates_by_milestones}
use Rattle.net_orders.proofs.milestones.calendar_with_milestones.Goals as goal

pub returns : goal.returns
returns c =
    let net = c.args.net.now in
    let n = points net in
    let same : 2 * c.intervals-points.result ≡ n = ap (λ (i : ℕ). 2 * i) c.intervals-points.ensures.count in
    let lowers = c.in_ok-lowers.lowers.items in
    let uppers = c.in_ok-uppers.uppers.items in
    let none = c.new-orders.result.items in
    let most = c.push_milestones.new.orders.items in
    let next = c.push_next.new.orders.items in
    let all = c.push_uppers.new.orders.items in
    let first = subst (λ (xs : List Date). ExtendsOrders (2 * n) (λ t. (k : ℕ) → k < length xs → IsAtMost n xs k t) none most) c.deref.ensures.value
    (subst (λ (m : ℕ). ExtendsOrders (2 * m) (λ t. (k : ℕ) → k < length c.deref.result.now → IsAtMost m c.deref.result.now k t) none most) same c.in_ok-push_milestones.ensures) in
    let second = subst (λ (xs : List Date). ExtendsOrders (2 * n) (λ t. (k : ℕ) → k + 1 < length xs → IsBeforeNext n xs k t) most next) c.deref-2.ensures.value
    (subst (λ (m : ℕ). ExtendsOrders (2 * m) (λ t. (k : ℕ) → k + 1 < length c.deref-2.result.now → IsBeforeNext m c.deref-2.result.now k t) most next) same c.in_ok-push_next.ensures) in
    let third = subst (λ (xs : List Date). ExtendsOrders (2 * n) (λ t. All (λ (upper : Date). ArePlacedBefore n lowers upper t) xs) next all) c.deref-4.ensures.value
    (subst (λ (xs : List Date). ExtendsOrders (2 * n) (λ t. All (λ (upper : Date). ArePlacedBefore n xs upper t) c.deref-4.result.now) next all) c.deref-3.ensures.value
    (subst (λ (m : ℕ). ExtendsOrders (2 * m) (λ t. All (λ (upper : Date). ArePlacedBefore m c.deref-3.result.now upper t) c.deref-4.result.now) next all) same c.in_ok-push_uppers.ensures)) in
    dates_by_milestones net lowers uppers all c.in_ok-lowers.ensures.dates c.in_ok-lowers.ensures.sorted c.in_ok-uppers.ensures.dates (record {
      in_range = third.in_range;
      exact = λ t. (
        λ holds.
            let last = (third.exact t).0 holds in
            let mid = (second.exact t).0 last.0 in
            let begin = (first.exact t).0 mid.0 in
            (begin.1, mid.1, last.1),
        λ said. (third.exact t).1 ((second.exact t).1 ((first.exact t).1 (subst (λ (xs : List Atom). SatisfiesAll xs t) (sym c.new-orders.ensures.items) (All-nil (Satisfies t)), said.0), said.1), said.2),
      );
    })
