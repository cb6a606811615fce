-- The laws of walks.
use Rattle.std.specs.Prelude.{◌⊎◌, ℕ, ◌*◌, ◌<◌, ◌≤◌, ◌↔◌, Bool, List, length}
use Rattle.net_core.specs.Atoms.{IsInOrder, IsInRange, Satisfies}
use Rattle.net_core.specs.Clashes.{Clashes}
use Rattle.net_core.specs.Fits.{EveryLink, Fits, FitsWith}
use Rattle.net_core.specs.Least.{AreLeast}
use Rattle.net_core.specs.Nets.{IsNet, PlainNet, points}
use Rattle.net_core.specs.Relations.{Timeline}
use Rattle.net_core.specs.Walks.{IsClosedWalk, HasWalk, IsWalk, Kept}
use Rattle.net_core.specs.declared.atom.Atom.{Atom}
use Rattle.net_core.specs.declared.step.Step.{Step}

-- point p is before point q in every timeline that fits with a set of links
abbrev pub AlwaysWith : PlainNet → (ℕ → Type 0) → Bool → ℕ → ℕ → Type 0
AlwaysWith net Chosen strict p q = (t : Timeline) → FitsWith net Chosen t → IsInOrder strict (t p) (t q)

-- The law: where some timeline fits with a set of links, an order of two points holds in all that do exactly where a walk over spans, the calendar and these links gives it.
abbrev pub WalksSayAll : Type 0
WalksSayAll =
    (net : PlainNet) (keep : List Bool) (u : Timeline) (strict : Bool) (p q : ℕ)
    → IsNet net → FitsWith net (Kept keep) u → p < points net → q < points net
    → AlwaysWith net (Kept keep) strict p q ↔ HasWalk net (Kept keep) p q strict

-- The law: links clash exactly where there is a closed walk over spans, the calendar and these links.
abbrev pub ClashesHaveClosedWalks : Type 0
ClashesHaveClosedWalks = (net : PlainNet) (keep : List Bool) → IsNet net → Clashes net (Kept keep) ↔ ((steps : List Step) × IsClosedWalk net (Kept keep) steps)

-- a walk of at most twice as many steps as there are points
abbrev pub HasShortWalk : PlainNet → (ℕ → Type 0) → ℕ → ℕ → Bool → Type 0
HasShortWalk net Chosen x y strict = (steps : List Step) × IsWalk net Chosen x y strict steps × (length steps ≤ 2 * points net)

-- The law: where there is a walk over some links there is a short one over these.
abbrev pub ShortWalks : Type 0
ShortWalks = (net : PlainNet) (keep : List Bool) (x y : ℕ) (strict : Bool) → IsNet net → HasWalk net (Kept keep) x y strict → HasShortWalk net (Kept keep) x y strict

-- an order of two points has a short walk, or there are least ranks that fit and in which it is false
abbrev pub IsProvedOrRefuted : PlainNet → Atom → Type 0
IsProvedOrRefuted net atom =
    HasShortWalk net EveryLink atom.from atom.to atom.strict
    ⊎ ((ranks : List ℕ) × AreLeast (points net) (λ t. Fits net t × (Satisfies t atom → ⊥)) ranks)

-- The law: where some timeline fits each order of two points is proved or refuted.
abbrev pub OrdersAreAnswered : Type 0
OrdersAreAnswered = (net : PlainNet) (u : Timeline) (atom : Atom) → IsNet net → Fits net u → IsInRange (points net) atom → IsProvedOrRefuted net atom
