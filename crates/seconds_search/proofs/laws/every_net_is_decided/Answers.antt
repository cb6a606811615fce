use Rattle.seconds_search.proofs.EveryNet.{every_net_is_decided}
use Rattle.seconds_search.proofs.laws.every_net_is_decided.Goals as goal

pub returns : goal.returns
returns c = every_net_is_decided
