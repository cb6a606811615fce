use Rattle.std.proofs.Common.{refl}
use Rattle.tml_canon.proofs.Writing.{closes, is_closed}
use Rattle.tml_canon.proofs.writer.Writer.close_start.Goals as goal

pub returns-then-not-self : goal.returns-then-not-self
returns-then-not-self c = is_closed c.args.self.now c.if-not-self.true

pub returns : goal.returns
returns c = closes c.args.self.now _ c.if-not-self.false c.in_ok-extend_from_slice.ensures.items refl refl
