use Rattle.std.proofs.Common.{ℕ, ◌-◌, length, subst, sym, arith}
use Rattle.std.proofs.lemmas.List.{length-take-le}
use Rattle.order_closure.specs.Tables.{AreInRange, SatisfiesAll}
use Rattle.net_orders.proofs.Rising.{rises_then}
use Rattle.net_orders.proofs.least.raise_in_sequence.Goals as goal

pub raise_by-requires : goal.raise_by-requires
raise_by-requires c = record {
  in_range = subst (λ (n : ℕ). AreInRange n c.args.orders.now) (sym c.loop-rest.invariant.so_far.size) c.requires.in_range;
  within = c.loop-rest.invariant.so_far.within c.requires.within;
}

pub loop-rest-preserved : goal.loop-rest-preserved
loop-rest-preserved c =
    let all = SatisfiesAll c.args.orders.now in
    let rest = c.loop-rest.rest.now in
    let less = length-take-le (length rest - 1) rest (omega arith) in
    record {
      within = omega (arith, less, c.loop-rest.invariant.within);
      so_far = rises_then all all all c.args.ranks.now c.loop-rest.ranks c.raise_by.new.ranks (λ t holds. holds) (λ t holds. holds) c.loop-rest.invariant.so_far c.raise_by.ensures;
    }
