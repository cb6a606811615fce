-- Links without redundancy.
use Rattle.std.specs.Prelude.{◌≡◌, ◌≢◌, ◌↔◌, ℕ, ◌<◌, List, length}
use Rattle.std.specs.List.{All, Contains}
use Rattle.std.specs.List.Sorted.{IsStrictlyIncreasing}
use Rattle.net_core.specs.Clashes.{Others}
use Rattle.net_core.specs.Entailment.{HasTimeline}
use Rattle.net_core.specs.Fits.{Fits, FitsWith, KeepsLink}
use Rattle.net_core.specs.Nets.{IsNet, PlainNet}
use Rattle.net_core.specs.Relations.{Timeline}

-- link k holds in every timeline that fits with the links of a set
abbrev pub FollowsFrom : PlainNet → (ℕ → Type 0) → ℕ → Type 0
FollowsFrom net Chosen k = (t : Timeline) → FitsWith net Chosen t → KeepsLink net t k

-- it is false in some timeline that fits with them
abbrev pub CanFailWith : PlainNet → (ℕ → Type 0) → ℕ → Type 0
CanFailWith net Chosen k = (t : Timeline) × FitsWith net Chosen t × (KeepsLink net t k → ⊥)

-- the links beside link k when it is taken: all after it, and those before it that stay
abbrev pub Beside : (ℕ → Type 0) → ℕ → ℕ → Type 0
Beside Stays k j = (j ≢ k) × (j < k → Stays j)

-- The links of a net are taken in their order, and each that follows from those beside it is left out. These are the links that stay.
pub record IsReduced (net : PlainNet) (links : List ℕ) : Type 0 where
  pub rising : IsStrictlyIncreasing links
  pub of_net : All (λ k. k < length net.links) links
  pub stay : (k : ℕ) → Contains links k → CanFailWith net (Beside (Contains links) k) k
  pub left_out : (k : ℕ) → k < length net.links → (Contains links k → ⊥) → FollowsFrom net (Beside (Contains links) k) k

-- Some links say the same as all links of a net, and each of them is needed: it can be false where the others are true.
pub record SayTheSame (net : PlainNet) (links : List ℕ) : Type 0 where
  pub same : (t : Timeline) → FitsWith net (Contains links) t ↔ Fits net t
  pub needed : (k : ℕ) → Contains links k → CanFailWith net (Others (Contains links) k) k

-- the law: the links that stay say the same as all
abbrev pub ReducedLinksSayTheSame : Type 0
ReducedLinksSayTheSame = (net : PlainNet) (links : List ℕ) → IsReduced net links → SayTheSame net links

-- the law: one list of links stays
abbrev pub OneReducedList : Type 0
OneReducedList = (net : PlainNet) (links others : List ℕ) → IsReduced net links → IsReduced net others → links ≡ others

-- the law: and where some timeline fits there is one
abbrev pub EveryNetIsReduced : Type 0
EveryNetIsReduced = (net : PlainNet) → IsNet net → HasTimeline net → (links : List ℕ) × IsReduced net links
