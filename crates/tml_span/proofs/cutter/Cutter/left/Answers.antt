use Rattle.tml_span.proofs.Pulling.{at, place_within}
use Rattle.tml_span.proofs.cutter.Cutter.left.Goals as goal

pub split_at-requires : goal.split_at-requires
split_at-requires c = place_within (at c.self.inside.source.now c.self.inside.place) c.self.invariant.0
