use Rattle.derive_rel.proofs.Masks.{mask_entails}
use Rattle.derive_rel.proofs.pairs.entailed.Goals as goal

pub returns : goal.returns
returns c = λ r. mask_entails c.args.closed.now c.args.a c.args.b c.orders_between.result r c.orders_between.ensures
