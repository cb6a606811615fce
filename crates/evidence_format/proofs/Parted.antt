-- Ranks that are parted into timelines.
use Rattle.std.proofs.Common.{◌≡◌, ℕ, zero, suc, ◌-◌, ◌<◌, ◌≤◌, List, [], ◌∷◌, ◌++◌, length, map, take, drop, slice_index, slice_index_or, refl, sym, ap, subst, length-append, length-drop, arith}
use Rattle.std.proofs.lemmas.List.{drop-append-le, map_push, take-append-le}
use Rattle.std.proofs.Math.Seq.{drop-append_seam, take-length}
use Rattle.net_core.specs.Ranks.{AreEven, pairs_of, ranks_of}
use Rattle.evidence_format.specs.Timelines.{AreParts, parts_of}

-- ---- ranks of intervals

-- the intervals are those that the ranks are of
pub pairs_again : (pairs : List (ℕ × ℕ)) → pairs_of (ranks_of pairs) ≡ pairs
pairs_again [] = refl
pairs_again (pair ∷ pairs) = ap (λ (more : List (ℕ × ℕ)). pair ∷ more) (pairs_again pairs)

even_ranks : (pairs : List (ℕ × ℕ)) → AreEven (ranks_of pairs)
even_ranks [] = tt
even_ranks (pair ∷ pairs) = even_ranks pairs

-- the ranks of one interval more
pub ranks_push : (pairs : List (ℕ × ℕ)) (start finish : ℕ) → ranks_of (pairs ++ (start, finish) ∷ []) ≡ ranks_of pairs ++ start ∷ finish ∷ []
ranks_push [] start finish = refl
ranks_push (pair ∷ pairs) start finish = ap (λ (more : List ℕ). pair.0 ∷ pair.1 ∷ more) (ranks_push pairs start finish)

-- ---- parts

-- a part of the first ranks is where it was
part_before : (start end : ℕ) (ranks more : List ℕ) → start ≤ end → end ≤ length ranks → take (end - start) (drop start (ranks ++ more)) ≡ take (end - start) (drop start ranks)
part_before start end ranks more rise within =
    let begins : start ≤ length ranks = omega arith in
    let ends : end - start ≤ length (drop start ranks) = omega (arith, length-drop start ranks) in
    rw (drop-append-le start ranks more begins, take-append-le (end - start) (drop start ranks) more ends) refl

-- what is added is a part
part_after : (ranks more : List ℕ) → take (length (ranks ++ more) - length ranks) (drop (length ranks) (ranks ++ more)) ≡ more
part_after ranks more =
    let size : length (ranks ++ more) - length ranks ≡ length more = omega (arith, length-append ranks more) in
    rw (size, drop-append_seam ranks more, take-length more) refl

module _ (more : List ℕ) (even : AreEven more) where
  -- one part more
  pub parts_push : (start : ℕ) (ends ranks : List ℕ) → AreParts start ends ranks → parts_of start (ends ++ length (ranks ++ more) ∷ []) (ranks ++ more) ≡ parts_of start ends ranks ++ more ∷ []
  parts_push start [] ranks are = rw are (ap (λ (part : List ℕ). part ∷ []) (part_after ranks more))
  parts_push start (end ∷ ends) ranks are =
      let first = part_before start end ranks more are.0 are.1 in
      let others = parts_push end ends ranks are.3 in
      λ i. first i ∷ others i

  pub are_parts_push : (start : ℕ) (ends ranks : List ℕ) → AreParts start ends ranks → AreParts start (ends ++ length (ranks ++ more) ∷ []) (ranks ++ more)
  are_parts_push start [] ranks are =
      let size = length-append ranks more in
      (omega (arith, are), omega arith, rw are (subst AreEven (sym (part_after ranks more)) even), refl)
  are_parts_push start (end ∷ ends) ranks are =
      let size = length-append ranks more in
      (are.0, omega (arith, are.1), subst AreEven (sym (part_before start end ranks more are.0 are.1)) are.2, are_parts_push end ends ranks are.3)

-- the part of a number
module _ (ranks : List ℕ) where
  pub part_at : (start : ℕ) (ends : List ℕ) (k : ℕ) → k < length ends → slice_index_or (parts_of start ends ranks) k [] ≡ take (slice_index ends k - slice_index (start ∷ ends) k) (drop (slice_index (start ∷ ends) k) ranks)
  part_at start [] k below = absurd (omega arith)
  part_at start (end ∷ ends) zero below = refl
  part_at start (end ∷ ends) (suc k) below = part_at end ends k (omega arith)

  pub even_part : (start : ℕ) (ends : List ℕ) (k : ℕ) → k < length ends → AreParts start ends ranks → AreEven (slice_index_or (parts_of start ends ranks) k [])
  even_part start [] k below are = absurd (omega arith)
  even_part start (end ∷ ends) zero below are = are.2
  even_part start (end ∷ ends) (suc k) below are = even_part end ends k (omega arith) are.3

  pub part_rises : (start : ℕ) (ends : List ℕ) (k : ℕ) → k < length ends → AreParts start ends ranks → slice_index (start ∷ ends) k ≤ slice_index ends k
  part_rises start [] k below are = absurd (omega arith)
  part_rises start (end ∷ ends) zero below are = are.0
  part_rises start (end ∷ ends) (suc k) below are = part_rises end ends k (omega arith) are.3

  pub part_within : (start : ℕ) (ends : List ℕ) (k : ℕ) → k < length ends → AreParts start ends ranks → slice_index ends k ≤ length ranks
  part_within start [] k below are = absurd (omega arith)
  part_within start (end ∷ ends) zero below are = are.1
  part_within start (end ∷ ends) (suc k) below are = part_within end ends k (omega arith) are.3

  pub parts_count : (start : ℕ) (ends : List ℕ) → length (parts_of start ends ranks) ≡ length ends
  parts_count start [] = refl
  parts_count start (end ∷ ends) = ap suc (parts_count end ends)

-- ---- a timeline more

-- the ranks that were appended are one timeline more
pub timeline_push : (ends ranks new : List ℕ) (pairs : List (ℕ × ℕ)) (end : ℕ) → AreParts 0 ends ranks → new ≡ ranks ++ ranks_of pairs → end ≡ length new
    → AreParts 0 (ends ++ end ∷ []) new × (map pairs_of (parts_of 0 (ends ++ end ∷ []) new) ≡ map pairs_of (parts_of 0 ends ranks) ++ pairs ∷ [])
timeline_push ends ranks new pairs end are appended is =
    let more = ranks_of pairs in
    let pushed = map_push pairs_of (parts_of 0 ends ranks) more in
    let same : map pairs_of (parts_of 0 ends ranks ++ more ∷ []) ≡ map pairs_of (parts_of 0 ends ranks) ++ pairs ∷ [] = rw (pushed, pairs_again pairs) refl in
    rw (is, appended) (are_parts_push more (even_ranks pairs) 0 ends ranks are, rw (parts_push more (even_ranks pairs) 0 ends ranks are) same)
