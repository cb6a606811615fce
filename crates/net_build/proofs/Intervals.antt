-- A net has an interval for each of its document.
use Rattle.std.proofs.Common.{◌≡◌, length, sym}
use Rattle.std.proofs.lemmas.Slice.Zip.{AllZip-long}
use Rattle.net_core.specs.Nets.{PlainNet, intervals}
use Rattle.tml_refs.specs.Documents.{PlainDocument}
use Rattle.net_build.specs.Built.{IntervalBounds, IsNetOf}

pub as_many : (contents : PlainDocument) (net : PlainNet) → IsNetOf contents net → length contents.intervals ≡ intervals net
as_many contents net built = sym (AllZip-long IntervalBounds contents.intervals net.bounds built.bounds)
