-- Least ranks of a table that was raised by a relation.
use Rattle.std.proofs.Common.{◌≡◌, ◌↔◌, ℕ, ◌<◌, Ok, Err, List, length, subst}
use Rattle.std.specs.Prelude.{IfOk, slice_index}
use Rattle.std.specs.declared.result.Result.{Result}
use Rattle.net_core.specs.Least.{AreLeast, IsLeast}
use Rattle.net_core.specs.Ranks.{timeline_of}
use Rattle.net_core.specs.Relations.{Timeline}
use Rattle.lists.specs.declared.memory.Memory.{Memory}

-- ranks that are least by one property are so by another that the same timelines have
pub least_by : (n m : ℕ) (P Q : Timeline → Type 0) → n ≡ m → ((t : Timeline) → P t ↔ Q t) → (result : Result (List ℕ) Memory)
    → IfOk result (λ ranks. length ranks ≡ n) → IfOk result (λ ranks. IsLeast n P (timeline_of ranks)) → IfOk result (λ ranks. (p : ℕ) → p < n → slice_index ranks p < n)
    → IfOk result (AreLeast m Q)
least_by n m P Q e same (Ok ranks) size least small = subst (λ (k : ℕ). AreLeast k Q ranks) e (record {
  size = size;
  least = record { holds = (same (timeline_of ranks)).0 least.holds; least = λ u has p lt. least.least u ((same u).1 has) p lt };
  small = small;
})
least_by n m P Q e same (Err memory) size least small = tt
