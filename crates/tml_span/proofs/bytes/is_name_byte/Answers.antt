use Rattle.tml_span.proofs.NameBytes.{tabled}
use Rattle.tml_span.proofs.bytes.is_name_byte.Goals as goal

pub returns : goal.returns
returns c = rw c.from.ensures (tabled _ c.ranges.b.fits)
