use Rattle.std.proofs.Common.{length}
use Rattle.tml_possible.proofs.checking.+are_in_order.Given as goal

-- fewer relations are left
abbrev pub decreases-are_in_order : goal.decreases-are_in_order
decreases-are_in_order l = length l.bases.now
