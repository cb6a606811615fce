use Rattle.tml_types.proofs.IdBytes.{tabled}
use Rattle.tml_types.proofs.attributes.is_id_byte.Goals as goal

pub returns : goal.returns
returns c = rw c.from.ensures (tabled _ c.ranges.b.fits)
