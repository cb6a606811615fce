use Rattle.tml_score.specs.Search.{basis_of}
use Rattle.tml_score.proofs.Searching.{itself_follows}
use Rattle.tml_score.proofs.search.KeptLinks.follows.Goals as goal

pub returns-then-asked : goal.returns-then-asked
returns-then-asked c = record { decides = itself_follows (basis_of c.args.self.now) c.args.asked c.requires.ready c.requires.asked c.if-asked.true; room = c.requires.room }
