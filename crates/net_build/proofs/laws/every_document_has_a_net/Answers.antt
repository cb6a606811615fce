use Rattle.net_build.proofs.EveryNet.{every_net}
use Rattle.net_build.proofs.laws.every_document_has_a_net.Goals as goal

pub returns : goal.returns
returns c = every_net
