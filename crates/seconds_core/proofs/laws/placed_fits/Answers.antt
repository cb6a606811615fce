use Rattle.seconds_core.proofs.Ordered.{placed_fits}
use Rattle.seconds_core.proofs.laws.placed_fits.Goals as goal

pub returns : goal.returns
returns c = placed_fits
