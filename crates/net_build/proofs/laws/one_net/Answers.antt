use Rattle.net_build.proofs.OneNet.{one_net}
use Rattle.net_build.proofs.laws.one_net.Goals as goal

pub returns : goal.returns
returns c = one_net
