use Rattle.std.proofs.Common.{◌≡◌, ◌+◌, ◌-◌, ◌<◌, length, slice_index, refl, ap, arith}
use Rattle.std.proofs.lemmas.List.{get_or_read_under}
use Rattle.point_index.proofs.Index.numbers_of.Goals as goal

pub returns : goal.returns
returns g c =
    let starts = c.self.inside.starts.items in
    let point = c.args.point in
    let below : point < length starts - 1 = omega (arith, c.requires, ap (λ v. v.points) c.self.view_is) in
    let first : c.index.result.now ≡ slice_index starts point = get_or_read_under starts point (length starts) c.index.result.now 0 c.index.ensures (omega (arith, below)) refl in
    let after : c.index-2.result.now ≡ slice_index starts (point + 1) = get_or_read_under starts (point + 1) (length starts) c.index-2.result.now 0 c.index-2.ensures (omega (arith, below)) refl in
    rw (first, after, ← c.self.view_is) (c.self.invariant.numbers point below)
