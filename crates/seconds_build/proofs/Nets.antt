-- The net of a document with limits: there is one, and it is what a net with limits is to be.
use Rattle.std.proofs.Common.{◌≡◌, List, length, map, sym, ap, ◌∙◌, arith}
use Rattle.std.specs.List.{All}
use Rattle.std.proofs.lemmas.List.{length-map}
use Rattle.std.proofs.lemmas.List.Elements.{All-weaker}
use Rattle.std.proofs.lemmas.Slice.Zip.{AllZip-long}
use Rattle.std.proofs.lemmas.Int.{ints}
use Rattle.net_core.specs.Nets.{IsNet, PlainNet}
use Rattle.net_core.specs.declared.bounds.Bounds.{Bounds}
use Rattle.net_core.specs.declared.bounds.Bounds.TheVariants.{Exact, Within, Free}
use Rattle.net_build.specs.Built.{IntervalBounds, IsNetOf}
use Rattle.net_build.proofs.OneNet.{one_net}
use Rattle.seconds_core.specs.Timed.{AreLengths, AreSeconds, IsTimed}
use Rattle.seconds_core.specs.declared.timed.Limits.{Limits}
use Rattle.timex_dates.specs.Answers.{IsCivil}
use Rattle.tml_refs.specs.Documents.{PlainDocument}
use Rattle.seconds_build.specs.Built.{OneTimed, interval_limits}

-- the civil seconds are near second 0
near : (b : Bounds) → IsCivil b → AreSeconds b
near (Exact lo hi) h = ((omega (arith, ints), omega (arith, ints)), (omega (arith, ints), omega (arith, ints)))
near (Within lo hi) h = ((omega (arith, ints), omega (arith, ints)), (omega (arith, ints), omega (arith, ints)))
near Free h = tt

-- the net of a document, and the limits of its intervals
pub is_timed : (doc : PlainDocument) (net : PlainNet) (limits : List Limits) → IsNetOf doc net → IsNet net → All IsCivil net.bounds → limits ≡ map interval_limits doc.intervals → All AreLengths limits
    → IsTimed (record { net = net; limits = limits })
is_timed doc net limits of_doc is_net civil same lengths = record {
  net = is_net;
  size = ap length same ∙ length-map doc.intervals interval_limits ∙ sym (AllZip-long IntervalBounds doc.intervals net.bounds of_doc.bounds);
  lengths = lengths;
  near = All-weaker IsCivil AreSeconds near net.bounds civil;
}

pub one_timed : OneTimed
one_timed doc timed other h k =
    let net = one_net doc timed.net other.net h.net k.net in
    let limits = h.limits ∙ sym k.limits in
    λ i. record { net = net i; limits = limits i }
