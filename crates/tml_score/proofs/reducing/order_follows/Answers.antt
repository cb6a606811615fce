use Rattle.tml_score.specs.Search.{basis_of}
use Rattle.tml_score.proofs.reducing.order_follows.Goals as goal

pub returns-clause-trees : goal.returns-clause-trees
returns-clause-trees c = c.spend.ensures (basis_of c.args.kept.now) c.requires.trees
