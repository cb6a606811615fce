use Rattle.tml_score.proofs.Redundancy.{reduced_links_say_the_same}
use Rattle.tml_score.proofs.laws.reduced_links_say_the_same.Goals as goal

pub returns : goal.returns
returns c = reduced_links_say_the_same
