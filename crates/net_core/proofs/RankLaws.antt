-- Ranks, two by two, and their sums.
use Rattle.std.proofs.Common.{◌≡◌, ℕ, zero, suc, ◌*◌, ◌%◌, ◌≤◌, length, arith, List, [], ◌∷◌, ◌++◌, slice_index, refl, ap}
use Rattle.std.specs.List.{sum_by}
use Rattle.std.proofs.lemmas.List.Sums.{sum_by-cons}
use Rattle.net_core.specs.Ranks.{AreEven, pairs_of, ranks_of}

pub even_push : (ranks : List ℕ) (s e : ℕ) → AreEven ranks → AreEven (ranks ++ s ∷ e ∷ [])
even_push [] s e h = tt
even_push (a ∷ []) s e h = absurd h
even_push (a ∷ b ∷ ranks) s e h = even_push ranks s e h

pub pairs_push : (ranks : List ℕ) (s e : ℕ) → AreEven ranks → pairs_of (ranks ++ s ∷ e ∷ []) ≡ pairs_of ranks ++ (s, e) ∷ []
pairs_push [] s e h = refl
pairs_push (a ∷ []) s e h = absurd h
pairs_push (a ∷ b ∷ ranks) s e h = ap (λ (ps : List (ℕ × ℕ)). (a, b) ∷ ps) (pairs_push ranks s e h)

pub pairs_length : (ranks : List ℕ) → AreEven ranks → length ranks ≡ 2 * length (pairs_of ranks)
pairs_length [] h = refl
pairs_length (a ∷ []) h = absurd h
pairs_length (a ∷ b ∷ ranks) h = omega (arith, pairs_length ranks h)

-- there are two ranks for each pair
pub ranks_length : (pairs : List (ℕ × ℕ)) → length (ranks_of pairs) ≡ 2 * length pairs
ranks_length [] = refl
ranks_length (pair ∷ pairs) = omega (arith, ranks_length pairs)

-- the ranks of all intervals are those that they were taken from
pub ranks_again : (ranks : List ℕ) → AreEven ranks → ranks_of (pairs_of ranks) ≡ ranks
ranks_again [] h = refl
ranks_again (a ∷ []) h = absurd h
ranks_again (a ∷ b ∷ ranks) h = ap (λ (more : List ℕ). a ∷ b ∷ more) (ranks_again ranks h)

-- there are no more pairs than ranks
pub few_pairs : (ranks : List ℕ) → length (pairs_of ranks) ≤ length ranks
few_pairs [] = omega arith
few_pairs (start ∷ []) = omega arith
few_pairs (start ∷ finish ∷ ranks) = omega (arith, few_pairs ranks)

-- ranks of points that are two for each interval are even
pub even_length : (n : ℕ) (ranks : List ℕ) → length ranks ≡ 2 * n → AreEven ranks
even_length n [] size = tt
even_length n (start ∷ []) size = omega (arith, size)
even_length zero (start ∷ finish ∷ ranks) size = absurd (omega (arith, size))
even_length (suc n) (start ∷ finish ∷ ranks) size = even_length n ranks (omega (arith, size))

-- ranks of which none is left, taken two by two, are even
pub even_of_length : (ranks : List ℕ) → length ranks % 2 ≡ 0 → AreEven ranks
even_of_length [] even = tt
even_of_length (start ∷ []) even = absurd (omega (arith, even))
even_of_length (start ∷ finish ∷ ranks) even = even_of_length ranks (omega (arith, even))

-- the sum of ranks
abbrev pub sum_of : List ℕ → ℕ
sum_of ranks = sum_by (λ rank. rank) ranks

-- the sum of higher ranks is no less
pub sum_rises : (old new : List ℕ) → length new ≡ length old → ((p : ℕ) → slice_index old p ≤ slice_index new p) → sum_of old ≤ sum_of new
sum_rises [] new size up = omega arith
sum_rises (x ∷ old) [] size up = absurd (omega arith)
sum_rises (x ∷ old) (y ∷ new) size up =
    let first : x ≤ y = up zero in
    let rest = sum_rises old new (omega arith) (λ p. up (suc p)) in
    omega (arith, sum_by-cons (λ (rank : ℕ). rank) x old, sum_by-cons (λ (rank : ℕ). rank) y new)

-- higher ranks with no greater sum are the same
pub same_sum : (old new : List ℕ) → length new ≡ length old → ((p : ℕ) → slice_index old p ≤ slice_index new p) → sum_of new ≤ sum_of old → new ≡ old
same_sum [] [] size up less = refl
same_sum [] (y ∷ new) size up less = absurd (omega arith)
same_sum (x ∷ old) [] size up less = absurd (omega arith)
same_sum (x ∷ old) (y ∷ new) size up less =
    let first : x ≤ y = up zero in
    let rest = sum_rises old new (omega arith) (λ p. up (suc p)) in
    let lower = sum_by-cons (λ (rank : ℕ). rank) x old in
    let higher = sum_by-cons (λ (rank : ℕ). rank) y new in
    let here : y ≡ x = omega arith in
    let more = same_sum old new (omega arith) (λ p. up (suc p)) (omega arith) in
    cc
