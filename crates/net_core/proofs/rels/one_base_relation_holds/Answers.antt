use Rattle.net_core.proofs.BaseRelations as law
use Rattle.net_core.proofs.rels.one_base_relation_holds.Goals as goal

pub returns : goal.returns
returns c = law.one_base_relation_holds
