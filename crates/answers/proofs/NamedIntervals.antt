-- The names of intervals.
use Rattle.std.proofs.Common.{◌≡◌, ℕ, zero, suc, ◌+◌, ◌<◌, List, [], ◌∷◌, ◌++◌, None, Some, get_or, length, map, take, refl, ap, subst, arith}
use Rattle.std.specs.List.{slice_get}
use Rattle.answers.specs.Lines.{name_at}
use Rattle.tml_refs.specs.Documents.{PlainInterval, interval_name}

-- one element more
next_element : {A : Type 0} (xs : List A) (i : ℕ) (x : A) → slice_get xs i ≡ Some x → take (suc i) xs ≡ take i xs ++ x ∷ []
next_element [] i x at = let none : None ≡ Some x = at in cc
next_element (y ∷ xs) zero x at = let same : y ≡ x = cc in ap (λ z. z ∷ []) same
next_element (y ∷ xs) (suc i) x at = ap (λ ys. y ∷ ys) (next_element xs i x at)

pub one_further : {A : Type 0} (xs : List A) (i : ℕ) (x : A) → slice_get xs i ≡ Some x → take (i + 1) xs ≡ take i xs ++ x ∷ []
one_further xs i x at = subst (λ (n : ℕ). take n xs ≡ take i xs ++ x ∷ []) (let e : suc i ≡ i + 1 = omega arith in e) (next_element xs i x at)

-- the name of an interval among the names of all
pub name_there : (intervals : List PlainInterval) (i : ℕ) → i < length intervals → name_at intervals i ≡ get_or (map interval_name intervals) i []
name_there [] i lt = absurd (omega (arith, lt))
name_there (interval ∷ intervals) zero lt = refl
name_there (interval ∷ intervals) (suc i) lt = name_there intervals i (omega (arith, lt))
