-- Every document has a net.
use Rattle.std.proofs.Common.{List, [], ◌∷◌, map, refl}
use Rattle.std.specs.List.{All, AllZip}
use Rattle.std.proofs.lemmas.List.Elements.{All-nil, All-cons}
use Rattle.net_core.specs.Bounds.{AreOrdered}
use Rattle.net_core.specs.declared.bounds.Bounds.{Bounds}
use Rattle.net_core.specs.declared.bounds.Bounds.TheVariants.{Free}
use Rattle.timex_dates.specs.Answers.{IsCivil}
use Rattle.timex_dates.proofs.EveryTime.{every_time}
use Rattle.tml_refs.specs.Documents.{PlainInterval, instance, time}
use Rattle.net_build.specs.Built.{IntervalBounds, EveryNet, net_link}
use Rattle.net_build.proofs.DocumentNets.{is_net}

-- an interval has bounds
every_interval : (v : PlainInterval) → (b : Bounds) × IntervalBounds v b × AreOrdered b × IsCivil b
every_interval (instance name) = (Free, refl, tt, tt)
every_interval (time t) = every_time t.kind t.modifier t.value

-- the bounds of one interval after another
every_bounds : (vs : List PlainInterval) → (bs : List Bounds) × AllZip IntervalBounds vs bs × All AreOrdered bs × All IsCivil bs
every_bounds [] = ([], tt, All-nil AreOrdered, All-nil IsCivil)
every_bounds (v ∷ vs) =
    let first = every_interval v in
    let rest = every_bounds vs in
    (first.0 ∷ rest.0, (first.1, rest.1), All-cons AreOrdered first.0 rest.0 first.2 rest.2, All-cons IsCivil first.0 rest.0 first.3 rest.3)

pub every_net : EveryNet
every_net doc is_document =
    let bounds = every_bounds doc.intervals in
    let links = map net_link doc.links in
    (record { bounds = bounds.0; links = links }, record { bounds = bounds.1; links = refl }, is_net doc bounds.0 links is_document bounds.1 bounds.2 refl, bounds.3)
