use Rattle.named.proofs.Tables.{some_has, none_has}
use Rattle.named.proofs.named_by.Goals as goal

pub returns-clause-some : goal.returns-clause-some
returns-clause-some g c = some_has g.T.Named.text_of g.T.Named.all_of c.args.text.now c.named_in.result (rw (c.all.ensures) at c.named_in.ensures)

pub returns-clause-none : goal.returns-clause-none
returns-clause-none g c = none_has g.T.Named.text_of g.T.Named.all_of c.args.text.now g.met.T.Named.apart c.named_in.result (rw (c.all.ensures) at c.named_in.ensures)
