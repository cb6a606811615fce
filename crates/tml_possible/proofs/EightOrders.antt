-- The base relations of which none of some orders is false, by each eight of the orders.
use Rattle.std.proofs.Common.{◌≡◌, ◌↔◌, inl, inr, ℕ, ◌+◌, ◌-◌, ◌*◌, ◌/◌, ◌%◌, ◌^◌, ◌<◌, ap, arith}
use Rattle.std.specs.Prelude.{bit_and, slice_index}
use Rattle.std.specs.Int.{bit_at}
use Rattle.std.specs.List.{AllByRecursion}
use Rattle.std.proofs.lemmas.Bool.{cases_lt}
use Rattle.std.proofs.lemmas.List.Elements.{All-from_recursion}
use Rattle.std.proofs.lemmas.Nat.Bits.{bit_at-lt, bit_at-zero, bit_at_above, bit_at_and, bit_at_cat_high, bit_at_cat_low, same_from_bits}
use Rattle.tml_possible.specs.OrderSets.{AreNotDenied, AreOrderSets}
use Rattle.tml_possible.specs.declared.order_sets.OrderSets.{OrderSets}
use Rattle.tml_possible.specs.declared.possible_sets.TheConstants.{FALSE_ORDERS}

all_small : AllByRecursion (λ (orders : ℕ). orders < 2 ^ 16) FALSE_ORDERS
all_small = (omega arith, (omega arith, (omega arith, (omega arith, (omega arith, (omega arith, (omega arith, (omega arith, (omega arith, (omega arith, (omega arith, (omega arith, (omega arith, tt)))))))))))))

module _ (given : ℕ) where
  abbrev low : ℕ
  low = 1 * (given % 256)

  abbrev next : ℕ
  next = 256 * (given / 256 % 256)

  low_is : given ≡ given / 256 * 2 ^ 8 + given % 256
  low_is = omega arith

  next_is : given / 256 ≡ given / 256 / 256 * 2 ^ 8 + given / 256 % 256
  next_is = omega arith

  -- each bit of numbers of 16 bits is in the lower eight or in the next eight
  one_of_both : (i : ℕ) → i < 16 → bit_at given i ≡ bit_at low i + bit_at next i
  one_of_both i lt = elim (cases_lt i 8) [
    | inl less ↦ omega (
      arith,
      ap (λ (n : ℕ). bit_at n i) low_is,
      bit_at_cat_low (given / 256) 8 (given % 256) i less,
      ap (λ (n : ℕ). bit_at n i) (let e : low ≡ given % 256 = omega arith in e),
      ap (λ (n : ℕ). bit_at n i) (let e : next ≡ given / 256 % 256 * 2 ^ 8 + 0 = omega arith in e),
      bit_at_cat_low (given / 256 % 256) 8 0 i less,
      bit_at-zero i,
    )
    | inr past ↦
        let high = given / 256 in
        let fits : given % 256 < 2 ^ 8 = omega arith in
        omega (
          arith,
          ap (λ (n : ℕ). bit_at n i) low_is,
          bit_at_cat_high high 8 (given % 256) i fits past,
          ap (λ (n : ℕ). bit_at n (i - 8)) next_is,
          bit_at_cat_low (high / 256) 8 (high % 256) (i - 8) (omega (arith, lt, past)),
          bit_at_above low 8 i (omega arith) past,
          ap (λ (n : ℕ). bit_at n i) (let e : next ≡ high % 256 * 2 ^ 8 + 0 = omega arith in e),
          bit_at_cat_high (high % 256) 8 0 i (omega arith) past,
        )
  ]

  -- so numbers of 16 bits have nothing in common with it exactly where they have nothing in common with either eight
  apart : (orders : ℕ) → orders < 2 ^ 16 → (bit_and given orders ≡ 0) ↔ ((bit_and low orders ≡ 0) × (bit_and next orders ≡ 0))
  apart orders small = (
    λ e. (
      same_from_bits (bit_and low orders) 0 (λ i. elim (cases_lt i 16) [
        | inl lt ↦ omega (arith, one_of_both i lt, bit_at_and low orders i, bit_at_and given orders i, ap (λ (n : ℕ). bit_at n i) e, bit_at-zero i)
        | inr past ↦ omega (arith, bit_at_and low orders i, bit_at_above orders 16 i small past, bit_at-zero i)
      ]),
      same_from_bits (bit_and next orders) 0 (λ i. elim (cases_lt i 16) [
        | inl lt ↦ omega (arith, one_of_both i lt, bit_at_and next orders i, bit_at_and given orders i, ap (λ (n : ℕ). bit_at n i) e, bit_at-zero i)
        | inr past ↦ omega (arith, bit_at_and next orders i, bit_at_above orders 16 i small past, bit_at-zero i)
      ]),
    ),
    λ both. same_from_bits (bit_and given orders) 0 (λ i. elim (cases_lt i 16) [
      | inl lt ↦ omega (arith, one_of_both i lt, bit_at_and given orders i, bit_at_and low orders i, bit_at_and next orders i, ap (λ (n : ℕ). bit_at n i) both.0, ap (λ (n : ℕ). bit_at n i) both.1, bit_at-zero i)
      | inr past ↦ omega (arith, bit_at_and given orders i, bit_at_above orders 16 i small past, bit_at-zero i)
    ]),
  )

-- what both sets have is what neither eight orders deny
pub sets_joined : (sets : OrderSets) → AreOrderSets sets → (given : ℕ) → AreNotDenied given (bit_and (slice_index sets.forth (given % 256)) (slice_index sets.back (given / 256 % 256)))
sets_joined sets are given k =
    let forth = slice_index sets.forth (given % 256) in
    let back = slice_index sets.back (given / 256 % 256) in
    let first = are.0 (given % 256) (omega arith) k in
    let second = are.1 (given / 256 % 256) (omega arith) k in
    let both = bit_at_and forth back k in
    let parts = λ (lt : k < 13). apart given (slice_index FALSE_ORDERS k) (All-from_recursion (λ (orders : ℕ). orders < 2 ^ 16) FALSE_ORDERS all_small k 0 lt) in (
      λ e.
          let one = first.0 (omega (arith, e, both, bit_at-lt forth k, bit_at-lt back k)) in
          let two = second.0 (omega (arith, e, both, bit_at-lt forth k, bit_at-lt back k)) in
          (one.0, (parts one.0).1 (one.1, two.1)),
      λ h.
          let apart = (parts h.0).0 h.1 in
          omega (arith, both, first.1 (h.0, apart.0), second.1 (h.0, apart.1)),
    )
