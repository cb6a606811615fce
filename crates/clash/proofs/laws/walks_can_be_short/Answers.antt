use Rattle.clash.proofs.ShortWalks as law
use Rattle.clash.proofs.laws.walks_can_be_short.Goals as goal

pub returns : goal.returns
returns c = law.short_walks
