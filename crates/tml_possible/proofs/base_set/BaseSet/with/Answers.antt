use Rattle.std.proofs.Common.{◌*◌, ◌%◌, ◌^◌, ap, sym}
use Rattle.std.specs.Prelude.{bit_or}
use Rattle.tml_possible.proofs.Bases.{one_more, small_power}
use Rattle.tml_possible.proofs.base_set.BaseSet.with.Goals as goal

pub returns-in-Some : goal.returns-in-Some
returns-in-Some c =
    let k = c.in-Some.k in
    one_more c.args.self c.args.rel k (bit_or c.args.self.bits (1 * 2 ^ k % 65536)) (sym c.in-Some.ensures.number) (ap (bit_or c.args.self.bits) (small_power k c.in-Some.ensures.small))
