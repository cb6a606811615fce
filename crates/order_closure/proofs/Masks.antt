-- The bits of some orders, and those of a set of them.
use Rattle.std.proofs.Common.{◌≡◌, ◌↔◌, ℕ, ◌^◌, ◌≤◌, List, [], ◌∷◌, ap, sym, ◌∙◌, arith, inl, inr}
use Rattle.std.specs.Prelude.{bit_and}
use Rattle.std.specs.Int.{bit_at}
use Rattle.std.specs.List.{AllByRecursion}
use Rattle.std.proofs.lemmas.Bool.{cases_eq}
use Rattle.std.proofs.lemmas.Nat.Bits.{bit_at-lt, bit_at-pow_other, bit_at-pow_same, bit_at-zero, bit_at_and, bit_at_or, same_from_bits}
use Rattle.net_core.specs.declared.atom.PairOrder.{PairOrder}
use Rattle.order_closure.specs.Between.{bit_number, mask_of}

module _ (set : ℕ) where
  -- the bit of an order is set
  abbrev pub HasBit : PairOrder → Type 0
  HasBit order = bit_at set (bit_number order) ≡ 1

  -- a bit of one order is set where that order is there
  first_below : (order : PairOrder) (i : ℕ) → HasBit order → bit_at (2 ^ bit_number order) i ≤ bit_at set i
  first_below order i is = elim (cases_eq i (bit_number order)) [
    | inl e ↦
        let same : bit_at set i ≡ 1 = ap (bit_at set) e ∙ is in
        omega (arith, same, bit_at-lt (2 ^ bit_number order) i)
    | inr ne ↦ omega (arith, bit_at-pow_other (bit_number order) i ne)
  ]

  -- the bits of orders that are there are set
  mask_below : (orders : List PairOrder) → AllByRecursion HasBit orders → (i : ℕ) → bit_at (mask_of orders) i ≤ bit_at set i
  mask_below [] all i = omega (arith, bit_at-zero i)
  mask_below (order ∷ orders) all i =
      omega (arith, first_below order i all.0, mask_below orders all.1 i, bit_at_or (2 ^ bit_number order) (mask_of orders) i)

  -- and orders whose bits are set are there
  all_there : (orders : List PairOrder) → ((i : ℕ) → bit_at (mask_of orders) i ≤ bit_at set i) → AllByRecursion HasBit orders
  all_there [] below = tt
  all_there (order ∷ orders) below =
      let n = bit_number order in (
        omega (arith, below n, bit_at_or (2 ^ n) (mask_of orders) n, bit_at-pow_same n, bit_at-lt set n),
        all_there orders (λ i. omega (arith, below i, bit_at_or (2 ^ n) (mask_of orders) i)),
      )

  -- so a mask is in the set exactly where all its orders are there
  pub mask_in : (orders : List PairOrder) → (bit_and set (mask_of orders) ≡ mask_of orders) ↔ AllByRecursion HasBit orders
  mask_in orders = (
    λ e. all_there orders (λ i. omega (arith, bit_at_and set (mask_of orders) i, ap (λ (n : ℕ). bit_at n i) e)),
    λ all. same_from_bits (bit_and set (mask_of orders)) (mask_of orders) (λ i. omega (arith, bit_at_and set (mask_of orders) i, mask_below orders all i)),
  )

  -- bits of orders none of which is there are not set
  mask_outside : (orders : List PairOrder) → AllByRecursion (λ order. ¬ HasBit order) orders → (i : ℕ) → bit_at (mask_of orders) i ≡ 1 → bit_at set i ≡ 0
  mask_outside [] none i is = omega (arith, is, bit_at-zero i)
  mask_outside (order ∷ orders) none i is = elim (cases_eq i (bit_number order)) [
    | inl e ↦ let other : ¬ (bit_at set i ≡ 1) = (λ h. none.0 (ap (bit_at set) (sym e) ∙ h)) in omega (arith, other, bit_at-lt set i)
    | inr ne ↦ mask_outside orders none.1 i (omega (arith, is, bit_at-pow_other (bit_number order) i ne, bit_at_or (2 ^ bit_number order) (mask_of orders) i))
  ]

  -- and orders whose bits are not set are not there
  none_there : (orders : List PairOrder) → ((i : ℕ) → bit_at (mask_of orders) i ≡ 1 → bit_at set i ≡ 0) → AllByRecursion (λ order. ¬ HasBit order) orders
  none_there [] outside = tt
  none_there (order ∷ orders) outside =
      let n = bit_number order in (
        λ h. omega (arith, h, outside n (omega (arith, bit_at_or (2 ^ n) (mask_of orders) n, bit_at-pow_same n, bit_at-lt (mask_of (order ∷ orders)) n))),
        none_there orders (λ i is. outside i (omega (arith, is, bit_at_or (2 ^ n) (mask_of orders) i, bit_at-lt (mask_of (order ∷ orders)) i))),
      )

  -- so a mask and the set have nothing in common exactly where none of its orders is there
  pub mask_apart : (orders : List PairOrder) → (bit_and set (mask_of orders) ≡ 0) ↔ AllByRecursion (λ order. ¬ HasBit order) orders
  mask_apart orders = (
    λ e. none_there orders (λ i is. omega (arith, is, bit_at_and set (mask_of orders) i, ap (λ (n : ℕ). bit_at n i) e, bit_at-zero i, bit_at-lt set i)),
    λ none. same_from_bits (bit_and set (mask_of orders)) 0 (λ i. elim (cases_eq (bit_at (mask_of orders) i) 1) [
      | inl is ↦ omega (arith, bit_at_and set (mask_of orders) i, mask_outside orders none i is, bit_at-zero i)
      | inr not ↦ omega (arith, not, bit_at_and set (mask_of orders) i, bit_at-lt (mask_of orders) i, bit_at-zero i)
    ]),
  )
