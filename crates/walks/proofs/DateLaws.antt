-- The points that have a number, one after another.
use Rattle.std.proofs.Common.{◌≡◌, ◌↔◌, ◌==◌, ℕ, zero, suc, ◌+◌, ◌<◌, ◌≤◌, ℤ, ◌≤ℤ◌, int_cmp, int_lt, is_lt, pos, drop, get_or, false, true, List, Option, Some, None, [], ◌∷◌, ◌++◌, length, length-drop, Bool, refl, ap, subst, arith, below_more}
use Rattle.std.specs.List.{All, Contains, IsDistinct}
use Rattle.std.specs.List.Sorted.{IsPartitionPoint, IsPartitionedBy, IsPermutation}
use Rattle.std.proofs.lemmas.List.{get_or-drop}
use Rattle.std.proofs.lemmas.List.Elements.{All-from_recursion, All-push, All-weaker, Contains-append_left, Contains-push}
use Rattle.std.proofs.lemmas.List.Sorted.{All-permutation, Contains-permutation, ranks_by, sorted_far}
use Rattle.std.proofs.lemmas.Cmp.{back_total, int_cmp_total}
use Rattle.std.proofs.lemmas.Bool.Decides.{nat_tests, same_from_decides}
use Rattle.std.proofs.lemmas.Int.{ints}
use Rattle.std.proofs.lemmas.List.Folds.{list_any_none}
use Rattle.std.proofs.lemmas.Map.Keys.{IsDistinct-IsPermutation, IsDistinct-push, IsDistinct-tail}
use Rattle.std.specs.Cmp.{IsEquivalence}
use Rattle.walks.proofs.Parts.{dropped}
use Rattle.walks.specs.Dates.{AreAscending, AreDates, AreDescending, AreDatesFrom, AreOfDistinctPoints, IsDateOfPoint}
use Rattle.walks.specs.declared.dates.Date.{Date}

-- what is read past the end of a list of dates
abbrev pub no_date : Date
no_date = record { number = pos 0; point = 0 }

-- whether two dates are of one point
abbrev same_point : Date → Date → Bool
same_point x y = x.point == y.point

same_either_way : (p q : ℕ) → (p == q) ≡ (q == p)
same_either_way p q = same_from_decides {P = (q == p) ≡ true} (p == q) (q == p) (λ e. grind (arith, nat_tests), λ e. grind (arith, nat_tests)) (λ e. e, λ e. e)

same_laws : IsEquivalence same_point
same_laws = record {
  refl = λ x. grind (arith, nat_tests);
  symm = λ x y. same_either_way x.point y.point;
  congr = λ x y z e. let same : x.point ≡ y.point = grind (arith, nat_tests) in ap (λ (p : ℕ). p == z.point) same;
}

-- there is none of no points
pub dates_none : (number : ℕ → Option ℤ) → AreDates number 0 []
unfolding IsDistinct
dates_none number = record { right = All-from_recursion (IsDateOfPoint number 0) [] tt; whole = λ p x lp is. absurd (omega (arith, lp)); once = tt }

-- a sort leaves the dates
pub dates_sorted : (number : ℕ → Option ℤ) (n : ℕ) (dates sorted : List Date) → IsPermutation dates sorted → AreDates number n dates → AreDates number n sorted
dates_sorted number n dates sorted moved h = record {
  right = All-permutation (IsDateOfPoint number n) dates sorted moved h.right;
  whole = λ p x lp is. Contains-permutation dates sorted (record { number = x; point = p }) moved (h.whole p x lp is);
  once = IsDistinct-IsPermutation same_point (λ x y. same_either_way x.point y.point) dates sorted moved h.once;
}

-- what is true of points below n is true of those below n + 1
date_below : (number : ℕ → Option ℤ) (n : ℕ) (dates : List Date) → All (IsDateOfPoint number n) dates → All (IsDateOfPoint number (n + 1)) dates
date_below number n dates all = All-weaker (IsDateOfPoint number n) (IsDateOfPoint number (n + 1)) (λ date is. (let lt = is.0 in omega arith, is.1)) dates all

-- one point more that has no number
pub dates_without : (number : ℕ → Option ℤ) (n : ℕ) (dates : List Date) → number n ≡ None → AreDates number n dates → AreDates number (n + 1) dates
dates_without number n dates nothing h = record {
  right = date_below number n dates h.right;
  whole = λ p x lp is. below_more (λ (q : ℕ). number q ≡ Some x → Contains dates (record { number = x; point = q })) n (λ q lq. h.whole q x lq) (λ e. let both : None ≡ Some x = cc in cc) p lp is;
  once = h.once;
}

-- one point more that has a number
pub dates_with : (number : ℕ → Option ℤ) (n : ℕ) (dates : List Date) (x : ℤ) → number n ≡ Some x → AreDates number n dates
    → AreDates number (n + 1) (dates ++ record { number = x; point = n } ∷ [])
dates_with number n dates x is h =
    let last : Date = record { number = x; point = n } in
    record {
      right = All-push (IsDateOfPoint number (n + 1)) dates last (date_below number n dates h.right) (omega arith, is);
      whole = λ p y lp e. below_more (λ (q : ℕ). number q ≡ Some y → Contains (dates ++ last ∷ []) (record { number = y; point = q })) n
          (λ q lq k. Contains-append_left dates (last ∷ []) (record { number = y; point = q }) (h.whole q y lq k))
          (λ k. let same : x ≡ y = cc in subst (λ (z : ℤ). Contains (dates ++ last ∷ []) (record { number = z; point = n })) same (Contains-push dates last)) p lp e;
      once = IsDistinct-push same_laws dates last h.once (list_any_none (same_point last) dates (All-weaker (IsDateOfPoint number n) (λ date. same_point last date ≡ false) (λ date is. let lt = is.0 in grind (arith, nat_tests)) dates h.right));
    }

-- what a test of two numbers says
not_less : (x y : ℤ) → is_lt (int_cmp x y) ≡ false → y ≤ℤ x
not_less x y e = grind (arith, ints)

less_first : (x y z : ℤ) → x ≤ℤ y → int_lt y z ≡ true → int_lt x z ≡ true
less_first x y z le lt = grind (arith, ints)

from_test : (x y : ℤ) → int_lt x y ≡ false ↔ (y ≤ℤ x)
from_test x y = (λ e. grind (arith, ints), λ le. grind (arith, ints))

-- in a list with the least number first, no number is less than an earlier one
pub ascending : (dates : List Date) (i j : ℕ) (d : Date) → AreAscending dates → i ≤ j → j < length dates → (get_or dates i d).number ≤ℤ (get_or dates j d).number
ascending dates i j d sorted le lt =
    not_less (get_or dates j d).number (get_or dates i d).number
    (sorted_far (λ (x y : Date). is_lt (int_cmp x.number y.number)) (ranks_by int_cmp_total (λ (date : Date). date.number)) dates sorted i j d le lt)

-- in a list with the greatest number first, no number is greater than an earlier one
pub descending : (dates : List Date) (i j : ℕ) (d : Date) → AreDescending dates → i ≤ j → j < length dates → (get_or dates j d).number ≤ℤ (get_or dates i d).number
descending dates i j d sorted le lt =
    not_less (get_or dates i d).number (get_or dates j d).number
    (sorted_far (λ (x y : Date). is_lt (int_cmp y.number x.number)) (ranks_by (back_total int_cmp_total) (λ (date : Date). date.number)) dates sorted i j d le lt)

-- what is left of a list with the least number first is such a list
pub ascending_from : (dates : List Date) (first : ℕ) → AreAscending dates → AreAscending (drop first dates)
ascending_from dates first sorted k d low lt =
    let next : first + (k + 1) ≡ first + k + 1 = omega arith in
    rw (get_or-drop, next, get_or-drop) (sorted (first + k) d (omega arith) (omega (arith, length-drop first dates)))

-- and of distinct points where the list is
pub distinct_from : (dates : List Date) (first : ℕ) → AreOfDistinctPoints dates → AreOfDistinctPoints (drop first dates)
distinct_from dates zero once = once
distinct_from [] (suc first) once = once
distinct_from (date ∷ dates) (suc first) once = distinct_from dates first (IsDistinct-tail same_point date dates once)

-- in a list with the least number first, those below a number stand first
pub below_first : (dates : List Date) (number : ℤ) → AreAscending dates → IsPartitionedBy (λ (date : Date). int_lt date.number number) dates
below_first dates number sorted i j d le lt passes =
    less_first (get_or dates i d).number (get_or dates j d).number number (ascending dates i j d sorted le lt) passes

-- the dates from a number on come after those below it
pub from_number : (dates : List Date) (number : ℤ) (first : ℕ)
    → IsPartitionPoint (λ (date : Date). int_lt date.number number ≡ true) (λ date. int_lt date.number number ≡ false) dates first
    → AreDatesFrom number dates (drop first dates)
from_number dates number first cut date =
    let both = dropped (λ (d : Date). int_lt d.number number) dates first cut date in
    let said = from_test date.number number in
    (λ h. let is = both.0 h in (is.0, said.0 is.1), λ h. both.1 (h.0, said.1 h.1))
