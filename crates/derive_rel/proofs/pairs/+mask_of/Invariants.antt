use Rattle.std.proofs.Common.{length}
use Rattle.derive_rel.proofs.pairs.+mask_of.Given as goal

-- the rest is shorter
abbrev pub decreases-mask_of : goal.decreases-mask_of
decreases-mask_of l = length l.orders.now
