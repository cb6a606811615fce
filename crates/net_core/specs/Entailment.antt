-- What follows from a net: what is true of every timeline that fits it.
use Rattle.std.specs.Prelude.{Bool, ℕ, ◌<◌}
use Rattle.net_core.specs.Atoms.{IsInOrder}
use Rattle.net_core.specs.Fits.{Fits, FitsWith}
use Rattle.net_core.specs.Nets.{PlainNet, intervals}
use Rattle.net_core.specs.Relations.{Relates, Timeline}
use Rattle.net_core.specs.declared.atom.Atom.{Atom}
use Rattle.net_core.specs.declared.rels.Rel.{Rel}

-- some timeline fits with the links of a set
abbrev pub HasTimelineWith : PlainNet → (ℕ → Type 0) → Type 0
HasTimelineWith net Chosen = (t : Timeline) × FitsWith net Chosen t

-- some timeline fits the net
abbrev pub HasTimeline : PlainNet → Type 0
HasTimeline net = (t : Timeline) × Fits net t

-- no timeline fits the net
abbrev pub HasNoTimeline : PlainNet → Type 0
HasNoTimeline net = (t : Timeline) → Fits net t → ⊥

-- both numbers are those of intervals of the net
abbrev pub AreIntervals : PlainNet → ℕ → ℕ → Type 0
AreIntervals net a b = (a < intervals net) × (b < intervals net)

-- the relation holds between two intervals in every timeline that fits the net
abbrev pub Follows : PlainNet → ℕ → Rel → ℕ → Type 0
Follows net a r b = (t : Timeline) → Fits net t → Relates t a r b

-- it is false between them in some timeline that fits the net
abbrev pub CanFail : PlainNet → ℕ → Rel → ℕ → Type 0
CanFail net a r b = (t : Timeline) × Fits net t × (Relates t a r b → ⊥)

-- point p is before point q in every timeline that fits the net, or where the order is not strict no later
abbrev pub Always : PlainNet → Bool → ℕ → ℕ → Type 0
Always net strict p q = (t : Timeline) → Fits net t → IsInOrder strict (t p) (t q)

-- the order of an atom holds in every timeline that fits the net
abbrev pub AlwaysHolds : PlainNet → Atom → Type 0
AlwaysHolds net atom = Always net atom.strict atom.from atom.to
