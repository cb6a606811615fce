use Rattle.std.proofs.Common.{refl}
use Rattle.tml_canon.proofs.Writing.{comment_left, comment_put, text_left, text_put}
use Rattle.tml_canon.proofs.writer.Writer.content.Goals as goal

pub returns-then-self-eq0-clause-text : goal.returns-then-self-eq0-clause-text
returns-then-self-eq0-clause-text c = text_left c.args.text.now c.args.self.now c.if-self-eq0.true

pub returns-then-self-eq0-clause-comment : goal.returns-then-self-eq0-clause-comment
returns-then-self-eq0-clause-comment c = comment_left c.args.text.now c.args.self.now c.if-self-eq0.true

pub returns-clause-text : goal.returns-clause-text
returns-clause-text c = text_put c.args.text.now c.args.self.now c.close_start.new.self _ c.if-self-eq0.false c.in_ok-close_start.ensures c.in_ok-extend_from_slice.ensures.items refl refl

pub returns-clause-comment : goal.returns-clause-comment
returns-clause-comment c = comment_put c.args.text.now c.args.self.now c.close_start.new.self _ c.if-self-eq0.false c.in_ok-close_start.ensures c.in_ok-extend_from_slice.ensures.items refl refl
