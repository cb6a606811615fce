use Rattle.std.proofs.Common.{◌≡◌, true, false, refl}
use Rattle.tml_possible.proofs.Lists.{empty_are_some}
use Rattle.tml_possible.proofs.checking.+are_in_order.Goals as goal

pub returns-in_default : goal.returns-in_default
returns-in_default t c = (
  λ h. empty_are_some c.args.list.now c.args.bases.now (λ more. let e : false ≡ true = c.in_default.ensures.variant.1 more in cc),
  λ h. refl,
)
