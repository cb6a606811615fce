use Rattle.std.proofs.Common.{◌≡◌, SFits, of_z, to_z, w64, ℕ, ◌+◌, ◌<◌, ◌-ℤ◌, length, pos, sym, ap, ◌∙◌, arith, rules}
use Rattle.std.proofs.lemmas.Int.{ints}
use Rattle.std.proofs.lemmas.List.{get_or_default, length-set}
use Rattle.seconds_core.specs.Placed.{second_at}
use Rattle.seconds_search.proofs.Counted.{counted_more, others_yet}
use Rattle.seconds_search.proofs.placing.from_origin.Goals as goal

pub loop-point-preserved : goal.loop-point-preserved
loop-point-preserved c =
    let so_far = c.loop-point.invariant in
    let old = c.args.seconds.items in
    let now = c.loop-point.seconds.items in
    let point = c.loop-point.point in
    let zero = c.in-Some.zero in
    let lt : point < length now = search rules in
    let here : c.index.result.now ≡ second_at now point = c.index.ensures ∙ get_or_default now point c.index.result.now (pos 0) lt in
    let yet = so_far.others point (omega arith) lt in
    let fits : SFits w64 c.since.result = search rules in
    let fits_here : SFits w64 c.index.result.now = search rules in
    let value = to_z w64 (of_z w64 c.since.result) in
    let origin = to_z w64 (of_z w64 zero) in
    let this : value ≡ second_at old point -ℤ origin = omega (arith, ints, c.since.ensures, here, yet, fits, fits_here) in
    let size = length-set now point value in
    record {
      end = so_far.end ∙ sym size;
      size = ap (λ (n : ℕ). n + 1) size ∙ so_far.size;
      zero = so_far.zero ∙ ap (second_at old) (sym size);
      counted = counted_more old now point origin value lt so_far.counted this;
      others = others_yet old now point origin value lt so_far.others;
    }
