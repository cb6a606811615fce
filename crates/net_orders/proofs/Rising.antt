-- Ranks that rise.
use Rattle.std.proofs.Common.{◌≡◌, ◌↔◌, ℕ, ◌+◌, ◌-◌, ◌<◌, ◌≤◌, List, length, get_or, take, slice_index, sym, subst, ◌∙◌, arith, below_more, inl, inr}
use Rattle.std.proofs.lemmas.Bool.{cases_eq}
use Rattle.std.proofs.lemmas.Grind.{same_number_lists}
use Rattle.std.proofs.lemmas.List.{get_or-take, length-take-le}
use Rattle.net_core.specs.Relations.{Timeline}
use Rattle.net_core.specs.Ranks.{timeline_of}
use Rattle.net_orders.specs.Raising.{AreLow, RanksRise, RisesUntil}
use Rattle.net_orders.proofs.Steps.{Below}

-- ranks between two that are the same are these
squeezed : (a b c : List ℕ) → length b ≡ length a → ((p : ℕ) → slice_index a p ≤ slice_index b p) → ((p : ℕ) → slice_index b p ≤ slice_index c p) → c ≡ a → b ≡ a
squeezed a b c size up more same = same_number_lists b a size (λ k lt.
    let first = up k in
    let second = subst (λ (xs : List ℕ). slice_index b k ≤ slice_index xs k) same (more k) in
    omega arith)

-- ranks rise by one thing, and then by another
pub rises_then : (First Second Both : Timeline → Type 0) (a b c : List ℕ) → ((t : Timeline) → Both t → First t) → ((t : Timeline) → Both t → Second t)
    → RanksRise First a b → RanksRise Second b c → RanksRise Both a c
rises_then First Second Both a b c first second one two = record {
  size = two.size ∙ one.size;
  higher = λ p. omega (arith, one.higher p, two.higher p);
  under = λ t holds under. two.under t (second t holds) (one.under t (first t holds) under);
  within = λ within. two.within (one.within within);
}

-- ranks that rise by a part of something rise by it
pub rises_part : (Part Whole : Timeline → Type 0) (old new : List ℕ) → ((t : Timeline) → Whole t → Part t) → RanksRise Part old new → RanksRise Whole old new
rises_part Part Whole old new part rises = record { size = rises.size; higher = rises.higher; under = λ t holds. rises.under t (part t holds); within = rises.within }

-- the same, as far as they must
pub until_then : (First Second Both : Timeline → Type 0) (a b c : List ℕ) → ((t : Timeline) → Both t ↔ (First t × Second t))
    → RisesUntil First a b → RisesUntil Second b c → RisesUntil Both a c
until_then First Second Both a b c both one two = record {
  rises = rises_then First Second Both a b c (λ t holds. ((both t).0 holds).0) (λ t holds. ((both t).0 holds).1) one.rises two.rises;
  settled = λ same low.
      let here = squeezed a b c one.rises.size one.rises.higher two.rises.higher same in
      (both (timeline_of a)).1 (one.settled here low, subst (λ (xs : List ℕ). Second (timeline_of xs)) here (two.settled (same ∙ sym here) (subst AreLow (sym here) low)));
}

-- the same of something that is true where it is
pub rises_same : (P Q : Timeline → Type 0) (old new : List ℕ) → ((t : Timeline) → P t ↔ Q t) → RisesUntil P old new → RisesUntil Q old new
rises_same P Q old new same rises = record {
  rises = record { size = rises.rises.size; higher = rises.rises.higher; under = λ t holds. rises.rises.under t ((same t).1 holds); within = rises.rises.within };
  settled = λ e low. (same (timeline_of old)).0 (rises.settled e low);
}

-- one thing more
pub rises_more : (IsTrue : ℕ → Timeline → Type 0) (k : ℕ) (start now next : List ℕ)
    → RisesUntil (Below IsTrue k) start now → RisesUntil (IsTrue k) now next → RisesUntil (Below IsTrue (k + 1)) start next
rises_more IsTrue k start now next = until_then (Below IsTrue k) (IsTrue k) (Below IsTrue (k + 1)) start now next (λ t. (
  λ all. (λ j lt. all j (omega arith), all k (omega arith)),
  λ both. below_more (λ j. IsTrue j t) k both.0 both.1,
))

-- something is true of all numbers from k on that are below n
abbrev pub From : (ℕ → Timeline → Type 0) → ℕ → ℕ → Timeline → Type 0
From IsTrue n k t = (j : ℕ) → k ≤ j → j < n → IsTrue j t

-- one thing more, from the last back
pub rises_more_back : (IsTrue : ℕ → Timeline → Type 0) (n m k : ℕ) (start now next : List ℕ) → m ≡ k + 1 → m ≤ n
    → RisesUntil (From IsTrue n m) start now → RisesUntil (IsTrue k) now next → RisesUntil (From IsTrue n k) start next
rises_more_back IsTrue n m k start now next last within = until_then (From IsTrue n m) (IsTrue k) (From IsTrue n k) start now next (λ t. (
  λ all. (λ j le lt. all j (omega arith) lt, all k (omega arith) (omega arith)),
  λ both. λ j le lt. elim (cases_eq k j) [
    | inl e ↦ subst (λ (i : ℕ). IsTrue i t) e both.1
    | inr ne ↦ both.0 j (omega arith) lt
  ],
))

-- what is left of a list is its first items, and so it is without the last of them
pub left_less : {X : Type 0} (rest xs : List X) (d : X) → ((k : ℕ) → k < length rest → get_or rest k d ≡ get_or xs k d)
    → (k : ℕ) → k < length (take (length rest - 1) rest) → get_or (take (length rest - 1) rest) k d ≡ get_or xs k d
left_less rest xs d left k lt =
    let size = length-take-le (length rest - 1) rest (omega arith) in
    get_or-take (length rest - 1) rest k d (omega arith) ∙ left k (omega arith)

-- all things, at the end
pub rises_all : (IsTrue : ℕ → Timeline → Type 0) (All : Timeline → Type 0) (k n : ℕ) (start now : List ℕ) → k ≡ n → ((t : Timeline) → Below IsTrue n t ↔ All t)
    → RisesUntil (Below IsTrue k) start now → RisesUntil All start now
rises_all IsTrue All k n start now end same so_far =
    rises_same (Below IsTrue n) All start now same (subst (λ (m : ℕ). RisesUntil (Below IsTrue m) start now) end so_far)

-- all things, at the first
pub rises_all_back : (IsTrue : ℕ → Timeline → Type 0) (All : Timeline → Type 0) (k n : ℕ) (start now : List ℕ) → k ≡ 0 → ((t : Timeline) → Below IsTrue n t ↔ All t)
    → RisesUntil (From IsTrue n k) start now → RisesUntil All start now
rises_all_back IsTrue All k n start now end same so_far = rises_same (From IsTrue n k) All start now (λ t. (
  λ below. (same t).0 (λ j lt. below j (omega arith) lt),
  λ all. λ j le lt. (same t).1 all j lt,
)) so_far
