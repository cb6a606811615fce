-- A document has one net.
use Rattle.std.proofs.Common.{◌≡◌, sym, ◌∙◌}
use Rattle.named.proofs.Pairs.{zip_one}
use Rattle.net_core.specs.declared.bounds.Bounds.{Bounds}
use Rattle.timex_dates.proofs.OneAnswers.{one_bounds}
use Rattle.tml_refs.specs.Documents.{PlainInterval, instance, time}
use Rattle.net_build.specs.Built.{IntervalBounds, OneNet}

-- an interval has one answer
pub one_interval : (v : PlainInterval) (a b : Bounds) → IntervalBounds v a → IntervalBounds v b → a ≡ b
one_interval (instance name) a b h k = h ∙ sym k
one_interval (time t) a b h k = one_bounds t.kind t.modifier t.value a b h k

pub one_net : OneNet
one_net doc net other h k =
    let bounds = zip_one IntervalBounds one_interval doc.intervals net.bounds other.bounds h.bounds k.bounds in
    let links = h.links ∙ sym k.links in
    λ i. record { bounds = bounds i; links = links i }
