use Rattle.std.proofs.Common.{map, refl}
use Rattle.tml_span.specs.View.{attribute_of}
use Rattle.tml_canon.proofs.Writing.{start_put}
use Rattle.tml_canon.proofs.writer.Writer.start.Goals as goal

pub returns : goal.returns
returns c = start_put c.args.name.now (map attribute_of c.args.attrs.now) c.args.self.now c.close_start.new.self _ c.in_ok-close_start.ensures c.in_ok-push_opening.ensures c.saturating_add-self.ensures refl
