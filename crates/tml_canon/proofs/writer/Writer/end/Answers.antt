use Rattle.std.proofs.Common.{refl}
use Rattle.tml_canon.proofs.Writing.{bare_end, full_end}
use Rattle.tml_canon.proofs.writer.Writer.end.Goals as goal

pub returns-then-self : goal.returns-then-self
returns-then-self c = bare_end c.args.name.now c.args.self.now _ c.saturating_sub-self.ensures refl c.if-self.true c.in_ok-extend_from_slice.ensures.items

pub returns : goal.returns
returns c = full_end c.args.name.now c.args.self.now _ c.saturating_sub-self.ensures c.if-self.false c.if-self.false c.in_ok-push_end_tag.ensures
