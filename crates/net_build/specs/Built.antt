-- The net of a document.
use Rattle.std.specs.Prelude.{◌≡◌, map}
use Rattle.std.specs.List.{All, AllZip}
use Rattle.net_core.specs.Nets.{IsNet, PlainNet}
use Rattle.net_core.specs.declared.bounds.Bounds.{Bounds}
use Rattle.net_core.specs.declared.bounds.Bounds.TheVariants.{Free}
use Rattle.net_core.specs.declared.net.NetLink.{NetLink}
use Rattle.timex_dates.specs.Answers.{BoundsOf, IsCivil}
use Rattle.tml_refs.specs.declared.document.DocLink.{DocLink}
use Rattle.tml_refs.specs.Documents.{IsDocument, PlainDocument, PlainInterval, instance, time}

-- what the calendar says of an interval: nothing of an instance, and of a time the bounds of its value
abbrev pub IntervalBounds : PlainInterval → Bounds → Type 0
IntervalBounds (instance name) bounds = bounds ≡ Free
IntervalBounds (time t) bounds = BoundsOf t.kind t.modifier t.value bounds

abbrev pub net_link : DocLink → NetLink
net_link link = record { a = link.a; rel = link.rel; b = link.b }

-- the net has the bounds of each interval and each link, in their order
pub record IsNetOf (doc : PlainDocument) (net : PlainNet) : Type 0 where
  pub bounds : AllZip IntervalBounds doc.intervals net.bounds
  pub links : net.links ≡ map net_link doc.links

-- the law: a document has one net
abbrev pub OneNet : Type 0
OneNet = (doc : PlainDocument) (net other : PlainNet) → IsNetOf doc net → IsNetOf doc other → net ≡ other

-- a document has a net, whose numbers have civil texts
abbrev pub EveryNet : Type 0
EveryNet = (doc : PlainDocument) → IsDocument doc → (net : PlainNet) × IsNetOf doc net × IsNet net × All IsCivil net.bounds
