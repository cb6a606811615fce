use Rattle.std.proofs.Common.{refl}
use Rattle.tml_refs.proofs.Taken.{none_taken}
use Rattle.tml_refs.proofs.resolver.Resolver.new.Goals as goal

pub returns : goal.returns
returns c = none_taken _ c.new.ensures c.new-2.ensures c.new-3.ensures.counts c.new-3.ensures.intervals c.new-3.ensures.links c.new-4.ensures refl refl
