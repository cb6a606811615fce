use Rattle.std.proofs.Common.{◌-◌, ◌+◌, ◌*◌, ◌<◌, ◌≤◌, ℕ, length, arith}
use Rattle.std.proofs.lemmas.List.Elements.{All-get_or}
use Rattle.walks.specs.declared.dates.Date.{Date}
use Rattle.walks.proofs.DateLaws.{no_date}
use Rattle.net_orders.specs.Milestones.{IsBeforeNext}
use Rattle.net_orders.proofs.CalendarOrders.{extends_same}
use Rattle.net_orders.proofs.MilestoneLaws.{next_more}
use Rattle.net_orders.proofs.milestones.push_next.Goals as goal

pub loop-k-init : goal.loop-k-init
loop-k-init c = record {
  some = omega arith;
  within = λ j lt. absurd (omega arith);
  so_far = record { in_range = c.requires.in_range; exact = λ t. (λ all. (all, λ j lt. absurd (omega arith)), λ both. both.0) };
}

pub loop-k-preserved : goal.loop-k-preserved
loop-k-preserved c =
    let n = c.args.points in
    let lowers = c.args.lowers.now in
    let k = c.loop-k.k in
    let some = c.loop-k.invariant.some in
    let lt : k < length lowers = omega (arith, c.loop-k-test.true) in
    let first = All-get_or (λ (d : Date). d.point < n) lowers (k - 1) no_date (omega arith) c.requires.below in
    let second = All-get_or (λ (d : Date). d.point < n) lowers k no_date lt c.requires.below in
    record {
      some = omega arith;
      within = λ j less. omega arith;
      so_far = next_more (2 * n) n lowers k c.args.orders.now.items c.loop-k.orders.items c.push.new.orders.items some c.loop-k.invariant.so_far
          (c.in_ok-push.ensures (2 * n) c.loop-k.invariant.so_far.in_range (omega arith, omega arith));
    }

pub returns : goal.returns
returns c =
    let n = c.args.points in
    let lowers = c.args.lowers.now in
    let k = c.loop-k.k in
    let end : length lowers ≤ k = omega (arith, c.loop-k-test.false) in
    extends_same (2 * n) (λ t. (j : ℕ) → j + 1 < k → IsBeforeNext n lowers j t) (λ t. (j : ℕ) → j + 1 < length lowers → IsBeforeNext n lowers j t) c.args.orders.now.items c.loop-k.orders.items
    (λ t holds. (λ all j lt. all j (omega arith), λ all j lt. all j (c.loop-k.invariant.within j lt))) c.loop-k.invariant.so_far
