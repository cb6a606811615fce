-- Seconds, two by two.
use Rattle.std.proofs.Common.{◌≡◌, ◌-◌, ◌*◌, ◌%◌, ◌/◌, ◌≤◌, ℤ, pos, List, [], ◌∷◌, ◌++◌, length, get_or, take, drop, refl, sym, ap, subst, arith}
use Rattle.std.specs.List.{All, AllByRecursion}
use Rattle.std.proofs.lemmas.List.{take_all}
use Rattle.std.proofs.lemmas.List.Elements.{All-from_recursion, recursion_from_All}
use Rattle.seconds_format.specs.Readers.{seconds_of_pairs}
use Rattle.seconds_format.specs.Texts.{IsLong, IsLongPair, pairs_of_seconds}

-- two seconds more are a pair more
pub pairs_push : (seconds : List ℤ) (start finish : ℤ) → length seconds % 2 ≡ 0 → pairs_of_seconds ((seconds ++ start ∷ []) ++ finish ∷ []) ≡ pairs_of_seconds seconds ++ (start, finish) ∷ []
pairs_push [] start finish even = refl
pairs_push (a ∷ []) start finish even = absurd (omega (arith, even))
pairs_push (a ∷ b ∷ seconds) start finish even = ap (λ (pairs : List (ℤ × ℤ)). (a, b) ∷ pairs) (pairs_push seconds start finish (omega (arith, even)))

-- there are two seconds for each pair
pub pairs_length : (seconds : List ℤ) → length seconds % 2 ≡ 0 → length seconds ≡ 2 * length (pairs_of_seconds seconds)
pairs_length [] even = refl
pairs_length (a ∷ []) even = absurd (omega (arith, even))
pairs_length (a ∷ b ∷ seconds) even = omega (arith, pairs_length seconds (omega (arith, even)))

-- half as many as there are seconds
pub pairs_half : (seconds : List ℤ) → length seconds % 2 ≡ 0 → length seconds / 2 ≡ length (pairs_of_seconds seconds)
pairs_half seconds even = omega (arith, pairs_length seconds even)

-- the seconds of all pairs are those that they were taken from
pub seconds_again : (seconds : List ℤ) → length seconds % 2 ≡ 0 → seconds_of_pairs (pairs_of_seconds seconds) ≡ seconds
seconds_again [] even = refl
seconds_again (a ∷ []) even = absurd (omega (arith, even))
seconds_again (a ∷ b ∷ seconds) even = ap (λ (more : List ℤ). a ∷ b ∷ more) (seconds_again seconds (omega (arith, even)))

-- the pairs of the seconds of pairs are these pairs
pub pairs_again : (pairs : List (ℤ × ℤ)) → pairs_of_seconds (seconds_of_pairs pairs) ≡ pairs
pairs_again [] = refl
pairs_again (pair ∷ pairs) = ap (λ (more : List (ℤ × ℤ)). pair ∷ more) (pairs_again pairs)

-- there are two seconds for each pair
pub seconds_length : (pairs : List (ℤ × ℤ)) → length (seconds_of_pairs pairs) ≡ 2 * length pairs
seconds_length [] = refl
seconds_length (pair ∷ pairs) = omega (arith, seconds_length pairs)

-- the first pair, and those of the seconds after it
pub pairs_cut : (seconds : List ℤ) → 2 ≤ length seconds → pairs_of_seconds seconds ≡ (get_or seconds 0 (pos 0), get_or seconds 1 (pos 0)) ∷ pairs_of_seconds (take (length seconds - 2) (drop 2 seconds))
pairs_cut [] some = absurd (omega arith)
pairs_cut (a ∷ []) some = absurd (omega arith)
pairs_cut (a ∷ b ∷ seconds) some = ap (λ (more : List ℤ). (a, b) ∷ pairs_of_seconds more) (sym (take_all (length (a ∷ b ∷ seconds) - 2) seconds (omega arith)))

-- the seconds of pairs that can stand in a text can stand there
pub pairs_long : (pairs : List (ℤ × ℤ)) → AllByRecursion IsLongPair pairs → All IsLong (seconds_of_pairs pairs)
pairs_long pairs h = All-from_recursion IsLong (seconds_of_pairs pairs) (each pairs h)
  where
    each : (pairs : List (ℤ × ℤ)) → AllByRecursion IsLongPair pairs → AllByRecursion IsLong (seconds_of_pairs pairs)
    each [] h = tt
    each (pair ∷ pairs) h = (h.0.0, (h.0.1, each pairs h.1))

-- and so can the pairs of seconds that can
pub long_again : (seconds : List ℤ) → All IsLong seconds → AllByRecursion IsLongPair (pairs_of_seconds seconds)
long_again seconds h = each seconds (recursion_from_All IsLong seconds h)
  where
    each : (seconds : List ℤ) → AllByRecursion IsLong seconds → AllByRecursion IsLongPair (pairs_of_seconds seconds)
    each [] h = tt
    each (a ∷ []) h = tt
    each (a ∷ b ∷ seconds) h = ((h.0, h.1.0), each seconds h.1.1)

-- so seconds can of which all pairs can
pub all_long : (seconds : List ℤ) → length seconds % 2 ≡ 0 → AllByRecursion IsLongPair (pairs_of_seconds seconds) → All IsLong seconds
all_long seconds even h = subst (All IsLong) (seconds_again seconds even) (pairs_long (pairs_of_seconds seconds) h)
