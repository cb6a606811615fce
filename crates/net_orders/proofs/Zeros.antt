-- Ranks that rise from zero.
use Rattle.std.proofs.Common.{◌≡◌, ℕ, List, length, replicate, slice_index, ap, ◌∙◌, arith, inl, inr}
use Rattle.std.proofs.lemmas.Bool.{cases_lt}
use Rattle.std.proofs.lemmas.List.{get_or-replicate, get_or_past, length-replicate}
use Rattle.net_core.specs.Least.{IsLeast}
use Rattle.net_core.specs.Ranks.{timeline_of}
use Rattle.net_core.specs.Relations.{Timeline}
use Rattle.net_orders.specs.Raising.{AreUnder, AreRanksWithin, RanksRise}

module _ (n : ℕ) (zeros : List ℕ) (are : zeros ≡ replicate n 0) where
  -- there is a zero for each point
  pub zeros_size : length zeros ≡ n
  zeros_size = ap length are ∙ length-replicate n 0

  -- each is zero
  zero_at : (p : ℕ) → slice_index zeros p ≡ 0
  zero_at p = elim (cases_lt p n) [
    | inl lt ↦ ap (λ (xs : List ℕ). slice_index xs p) are ∙ get_or-replicate n p 0 0 lt
    | inr past ↦ get_or_past zeros p 0 (let size = zeros_size in omega arith)
  ]

  -- none is above the highest rank, or above a rank of a timeline
  pub zeros_within : AreRanksWithin zeros
  zeros_within p = omega (arith, zero_at p)

  pub zeros_under : (t : Timeline) → AreUnder zeros t
  zeros_under t p lt = omega (arith, zero_at p)

  -- zeros that rise until something is true of them are the least ranks of which it is
  pub least_from_zeros : (IsTrue : Timeline → Type 0) (ranks : List ℕ) → RanksRise IsTrue zeros ranks → IsTrue (timeline_of ranks) → (length ranks ≡ n) × IsLeast n IsTrue (timeline_of ranks)
  least_from_zeros IsTrue ranks rises holds =
      let size = rises.size ∙ zeros_size in (
        size,
        record {
          holds = holds;
          least = λ u other p lt. rises.under u other (zeros_under u) p (omega arith);
        },
      )
