use Rattle.std.proofs.Common.{[]}
use Rattle.tml_types.proofs.Pulling.{nothing_read}
use Rattle.tml_types.proofs.tag_reader.TagReader.new.Goals as goal

pub returns-clause-ok : goal.returns-clause-ok
returns-clause-ok c = ([], nothing_read c.args.source.now _ _ c.in_ok-units.ensures.ok c.new-2.ensures)

pub returns-clause-begins : goal.returns-clause-begins
returns-clause-begins c = (nothing_read c.args.source.now _ _ c.in_ok-units.ensures.ok c.new-2.ensures, c.new-2.ensures)
