-- What the relations say of two intervals of whole seconds, by their starts and ends (Allen 1983).
use Rattle.std.specs.Prelude.{◌≡◌, ℤ, ◌<ℤ◌, ◌≤ℤ◌}
use Rattle.net_core.specs.declared.rels.Rel.{Rel}
use Rattle.net_core.specs.declared.rels.Rel.TheVariants as rel

-- the relation holds of an interval from second s to second e and one from second u to second v
abbrev pub HoldsInSeconds : ℤ → ℤ → Rel → ℤ → ℤ → Type 0
HoldsInSeconds s e rel.Before u v = e <ℤ u
HoldsInSeconds s e rel.After u v = v <ℤ s
HoldsInSeconds s e rel.Includes u v = (s <ℤ u) × (v <ℤ e)
HoldsInSeconds s e rel.IsIncluded u v = (u <ℤ s) × (e <ℤ v)
HoldsInSeconds s e rel.During u v = (u ≤ℤ s) × (e ≤ℤ v)
HoldsInSeconds s e rel.DuringInv u v = (s ≤ℤ u) × (v ≤ℤ e)
HoldsInSeconds s e rel.Simultaneous u v = (s ≡ u) × (e ≡ v)
HoldsInSeconds s e rel.Identity u v = (s ≡ u) × (e ≡ v)
HoldsInSeconds s e rel.Ibefore u v = e ≡ u
HoldsInSeconds s e rel.Iafter u v = v ≡ s
HoldsInSeconds s e rel.Begins u v = (s ≡ u) × (e <ℤ v)
HoldsInSeconds s e rel.BegunBy u v = (u ≡ s) × (v <ℤ e)
HoldsInSeconds s e rel.Ends u v = (e ≡ v) × (u <ℤ s)
HoldsInSeconds s e rel.EndedBy u v = (v ≡ e) × (s <ℤ u)
HoldsInSeconds s e rel.Overlaps u v = (s <ℤ u) × (u <ℤ e) × (e <ℤ v)
HoldsInSeconds s e rel.OverlappedBy u v = (u <ℤ s) × (s <ℤ v) × (v <ℤ e)
