use Rattle.std.proofs.Common.{◌≡◌, ◌/◌, length, ap, ◌∙◌, arith}
use Rattle.net_core.specs.Ranks.{pairs_of}
use Rattle.net_core.proofs.RankLaws.{pairs_length}
use Rattle.net_core.proofs.ranks.Ranks.intervals.Goals as goal

pub returns : goal.returns
returns c =
    let len = pairs_length c.self.inside.items.items c.self.invariant in
    let half : c.len.result / 2 ≡ length (pairs_of c.self.inside.items.items) = omega (arith, len, c.len.ensures) in
    half ∙ ap (λ ts. length (pairs_of ts)) c.self.view_is
