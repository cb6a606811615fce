use Rattle.std.proofs.Common.{ℕ, ◌<◌, length, sym, subst, arith, rules}
use Rattle.std.specs.List.{All}
use Rattle.std.proofs.lemmas.Grind.{common_steps}
use Rattle.std.proofs.lemmas.List.Elements.{All-append, All-nil}
use Rattle.std.proofs.lemmas.List.Sorted.{All-permutation}
use Rattle.net_orders.proofs.schedule.schedule_of.Goals as goal
use Rattle.net_orders.proofs.schedule.schedule_of.Goals.{In_ok-append}

-- the numbers so far are those of orders, and so are those by which a component was flooded
appended : (c : In_ok-append) → All (λ k. k < length c.args.orders.now) c.append.new.self.items
appended c =
    let P = λ (k : ℕ). k < length c.args.orders.now in
    let flooded : All P c.flood.new.inward.items = search rules in
    let turned = All-permutation P c.flood.new.inward.items _ c.reverse.ensures.permutation flooded in
    subst (All P) (sym c.in_ok-append.ensures.items) (All-append P c.loop-number.numbers.items _ c.loop-number.invariant.numbers turned)

pub push_onward-requires-clause-numbers : goal.push_onward-requires-clause-numbers
push_onward-requires-clause-numbers c = appended (goal.at.push_onward-requires-clause-numbers c).In_ok-append

pub loop-number-preserved : goal.loop-number-preserved
loop-number-preserved c =
    let P = λ (k : ℕ). k < length c.args.orders.now in
    record {
      size = grind (arith, common_steps);
      met = search rules;
      inward = subst (All P) (sym c.in_ok-append.ensures.other_items) (All-nil P);
      numbers = search rules;
    }
