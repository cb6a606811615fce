use Rattle.std.proofs.Common.{◌≡◌, ℕ, ◌<◌, ap, ◌∙◌, arith}
use Rattle.std.specs.Prelude.{bit_and, bit_or, slice_index}
use Rattle.tml_possible.specs.declared.possible_sets.TheConstants.{FALSE_ORDERS}
use Rattle.tml_possible.proofs.Bases.{next_set, next_stays, small_power}
use Rattle.tml_possible.proofs.possible_sets.not_denied.Goals as goal
use Rattle.tml_possible.proofs.possible_sets.not_denied.Goals.{then-given-orders-eq0, else-given-orders-eq0}

pub loop-k-preserved : goal.loop-k-preserved
loop-k-preserved c =
    let k = c.loop-k.k in
    let IsFree : ℕ → Type 0 = λ j. bit_and c.args.given (slice_index FALSE_ORDERS j) ≡ 0 in
    let set = c.loop-k.invariant.set in
    let small : k < 13 = omega (arith, c.loop-k-test.true) in record {
      items = c.loop-k.invariant.items;
      set = elim c.if-given-orders-eq0.branch [
        | then-given-orders-eq0 w ↦ next_set IsFree c.loop-k.bits k set c.if-given-orders-eq0.bits (w.bits-is ∙ ap (bit_or c.loop-k.bits) (small_power k small)) w.if-given-orders-eq0.true
        | else-given-orders-eq0 w ↦ rw w.bits-is (next_stays IsFree c.loop-k.bits k set w.if-given-orders-eq0.false)
      ];
    }
