-- Links that cannot all be true.
use Rattle.std.specs.Prelude.{◌≢◌, ◌↔◌, ℕ, ◌<◌, List, length}
use Rattle.std.specs.List.{All, Contains}
use Rattle.net_core.specs.Fits.{EveryLink, FitsWith}
use Rattle.net_core.specs.Nets.{PlainNet}
use Rattle.net_core.specs.Relations.{Timeline}
use Rattle.net_core.specs.Walks.{GoesOver, IsClosedWalk}
use Rattle.net_core.specs.declared.step.Step.{Step}

-- no timeline fits with the links of a set
abbrev pub Clashes : PlainNet → (ℕ → Type 0) → Type 0
Clashes net Chosen = (t : Timeline) → FitsWith net Chosen t → ⊥

-- the other links of a set
abbrev pub Others : (ℕ → Type 0) → ℕ → ℕ → Type 0
Others Chosen k j = Chosen j × (j ≢ k)

-- Links of the net that cannot all be true, and of which any one can be left out so that a timeline fits with the others: a minimal unsatisfiable subset.
pub record IsMinimalClash (net : PlainNet) (cites : List ℕ) : Type 0 where
  pub links : All (λ k. k < length net.links) cites
  pub clashes : Clashes net (Contains cites)
  pub needed : All (λ k. (t : Timeline) × FitsWith net (Others (Contains cites) k) t) cites

-- the walk goes over a link exactly where it is cited
abbrev pub Agrees : List ℕ → List Step → ℕ → Type 0
Agrees cites walk k = GoesOver walk k ↔ Contains cites k

-- the walk is closed, and goes over exactly the cited links
abbrev pub IsClosedOver : PlainNet → List ℕ → List Step → Type 0
IsClosedOver net cites walk = IsClosedWalk net EveryLink walk × ((k : ℕ) → k < length net.links → Agrees cites walk k)
