-- It is decided which links are cited, and whether a walk agrees with the cites on a link.
use Rattle.std.proofs.Common.{◌≡◌, inl, inr, ℕ, List, length, slice_index_or}
use Rattle.std.specs.List.{Contains}
use mathlib.Core.Logic.Dec
use native.Mathlib.Decide.{ℕ_discrete}
use Rattle.net_core.proofs.Lent.{implied, some_below}
use Rattle.net_core.specs.Clashes.{Agrees, Others}
use Rattle.net_core.specs.Walks.{GoesOver}
use Rattle.net_core.specs.declared.step.Step.{Step}
use Rattle.net_core.proofs.WalkLaws.{over_or_not}

contains : (cites : List ℕ) (k : ℕ) → Dec (Contains cites k)
contains cites k = some_below (λ i. slice_index_or cites i k ≡ k) (λ i. ℕ_discrete (slice_index_or cites i k) k) (length cites)

goes_over : (walk : List Step) (k : ℕ) → Dec (GoesOver walk k)
goes_over walk k = elim (over_or_not walk k) [ inl over ↦ yes over | inr never ↦ no never ]

pub agrees : (cites : List ℕ) (walk : List Step) (k : ℕ) → Dec (Agrees cites walk k)
agrees cites walk k = Dec.and (implied (goes_over walk k) (contains cites k)) (implied (contains cites k) (goes_over walk k))

-- whether a link is another one of those cited
pub others : (cites : List ℕ) (own k : ℕ) → Dec (Others (Contains cites) own k)
others cites own k = Dec.and (contains cites k) (Dec.not (ℕ_discrete k own))
