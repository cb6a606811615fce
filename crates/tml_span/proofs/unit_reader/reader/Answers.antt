use Rattle.tml_span.proofs.Dividing.{begins}
use Rattle.tml_span.proofs.unit_reader.reader.Goals as goal

pub invariant_of-result : goal.invariant_of-result
invariant_of-result c = begins c.args.source.now _ c.requires c.in_ok-cutter.ensures.ok c.in_ok-check.ensures.ok
