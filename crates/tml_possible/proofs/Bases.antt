-- Sets of base relations by their bits.
use Rattle.std.proofs.Common.{◌≡◌, ◌↔◌, ◌⊎◌, inl, inr, ◌==◌, ◌+◌, ◌*◌, ◌/◌, ◌%◌, ◌^◌, ℕ, ◌<◌, Bool, true, false, Option, Some, None, IfSome, get_or, refl, sym, ap, subst, ◌∙◌, arith}
use Rattle.std.specs.Prelude.{bit_or}
use Rattle.std.specs.Bool.{⊤}
use Rattle.std.specs.Int.{bit_at}
use Rattle.std.specs.List.{AllByRecursion, Contains}
use Rattle.std.proofs.lemmas.Bool.{cases_eq, eqb-true, eq-eqb}
use Rattle.std.proofs.lemmas.List.Elements.{All-contains, All-from_recursion}
use Rattle.std.proofs.lemmas.Nat.{pow_below}
use Rattle.std.proofs.lemmas.Nat.Bits.{bit_at-lt, bit_at-pow_other, bit_at-pow_same, bit_at_cat_low, bit_at_or}
use Rattle.net_core.specs.BaseRelations.{base_rels}
use Rattle.net_core.specs.declared.rels.Rel.{Rel}
use Rattle.net_core.specs.declared.rels.Rel.TheVariants as rel
use Rattle.tml_possible.specs.Sets.{AreMore, base_number, has, number}
use Rattle.tml_possible.specs.declared.base_set.BaseSet.{BaseSet}

-- there is a number
abbrev pub IsThere : Option ℕ → Type 0
IsThere None = ⊥
IsThere (Some k) = ⊤

pub none_there : (o : Option ℕ) → o ≡ None → IsThere o → ⊥
none_there None e is = is
none_there (Some k) e is = cc

-- a relation has a number
abbrev pub IsNumbered : Rel → Type 0
IsNumbered r = IsThere (base_number r)

-- the base relations are those that have numbers
all_numbered : AllByRecursion IsNumbered base_rels
all_numbered = (tt, (tt, (tt, (tt, (tt, (tt, (tt, (tt, (tt, (tt, (tt, (tt, (tt, tt)))))))))))))

pub base_is_numbered : (r : Rel) → Contains base_rels r → IsNumbered r
base_is_numbered r is = All-contains IsNumbered base_rels r (All-from_recursion IsNumbered base_rels all_numbered) is

pub numbered_is_base : (r : Rel) → IsNumbered r → Contains base_rels r
numbered_is_base rel.Before is = (0, omega arith, refl)
numbered_is_base rel.After is = (1, omega arith, refl)
numbered_is_base rel.Includes is = (2, omega arith, refl)
numbered_is_base rel.IsIncluded is = (3, omega arith, refl)
numbered_is_base rel.Simultaneous is = (4, omega arith, refl)
numbered_is_base rel.Ibefore is = (5, omega arith, refl)
numbered_is_base rel.Iafter is = (6, omega arith, refl)
numbered_is_base rel.Begins is = (7, omega arith, refl)
numbered_is_base rel.BegunBy is = (8, omega arith, refl)
numbered_is_base rel.Ends is = (9, omega arith, refl)
numbered_is_base rel.EndedBy is = (10, omega arith, refl)
numbered_is_base rel.Overlaps is = (11, omega arith, refl)
numbered_is_base rel.OverlappedBy is = (12, omega arith, refl)
numbered_is_base rel.During is = absurd is
numbered_is_base rel.DuringInv is = absurd is
numbered_is_base rel.Identity is = absurd is

pub numbered : (r : Rel) (k : ℕ) → base_number r ≡ Some k → IsNumbered r
numbered r k e = subst IsThere (sym e) tt

-- their numbers are below 13
number_small : (r : Rel) → IfSome (base_number r) (λ k. k < 13)
number_small rel.Before = omega arith
number_small rel.After = omega arith
number_small rel.Includes = omega arith
number_small rel.IsIncluded = omega arith
number_small rel.Simultaneous = omega arith
number_small rel.Ibefore = omega arith
number_small rel.Iafter = omega arith
number_small rel.Begins = omega arith
number_small rel.BegunBy = omega arith
number_small rel.Ends = omega arith
number_small rel.EndedBy = omega arith
number_small rel.Overlaps = omega arith
number_small rel.OverlappedBy = omega arith
number_small rel.During = tt
number_small rel.DuringInv = tt
number_small rel.Identity = tt

-- a relation without a number is in no set, and one with a number is where its bit is set
pub not_numbered : (set : BaseSet) (r : Rel) → base_number r ≡ None → has set r ≡ false
not_numbered set r e = ap (λ (o : Option ℕ). elim o [ None ↦ false | Some k ↦ bit_at set.bits k == 1 ]) e

pub has_bit : (set : BaseSet) (r : Rel) (k : ℕ) → base_number r ≡ Some k → (has set r ≡ true) ↔ (bit_at set.bits k ≡ 1)
has_bit set r k e =
    let is : has set r ≡ (bit_at set.bits k == 1) = ap (λ (o : Option ℕ). elim o [ None ↦ false | Some k ↦ bit_at set.bits k == 1 ]) e in
    (λ h. eqb-true (bit_at set.bits k) 1 (sym is ∙ h), λ h. is ∙ eq-eqb (bit_at set.bits k) 1 h)

-- whether the bit of a number is set, if there is one
abbrev bit_of_number : ℕ → Option ℕ → Bool
bit_of_number bits o = elim o [ None ↦ false | Some k ↦ bit_at bits k == 1 ]

-- a set has the relations of its number
pub has_number : (set : BaseSet) (r : Rel) → has (record { bits = number set }) r ≡ has set r
has_number set r = by (base_number r) (number_small r)
  where
    by : (o : Option ℕ) → IfSome o (λ k. k < 13) → bit_of_number (number set) o ≡ bit_of_number set.bits o
    by None small = refl
    by (Some k) small =
        let parts : set.bits ≡ set.bits / 8192 * 2 ^ 13 + set.bits % 8192 = omega arith in
        ap (λ (n : ℕ). n == 1) (sym (ap (λ (n : ℕ). bit_at n k) parts ∙ bit_at_cat_low (set.bits / 8192) 13 (set.bits % 8192) k small))

-- two relations with one number are one
abbrev base_at : ℕ → Rel
base_at k = get_or base_rels k rel.OverlappedBy

number_tells : (r : Rel) → IfSome (base_number r) (λ k. base_at k ≡ r)
number_tells rel.Before = refl
number_tells rel.After = refl
number_tells rel.Includes = refl
number_tells rel.IsIncluded = refl
number_tells rel.Simultaneous = refl
number_tells rel.Ibefore = refl
number_tells rel.Iafter = refl
number_tells rel.Begins = refl
number_tells rel.BegunBy = refl
number_tells rel.Ends = refl
number_tells rel.EndedBy = refl
number_tells rel.Overlaps = refl
number_tells rel.OverlappedBy = refl
number_tells rel.During = tt
number_tells rel.DuringInv = tt
number_tells rel.Identity = tt

same_number : (r s : Rel) (k : ℕ) → base_number r ≡ Some k → base_number s ≡ Some k → r ≡ s
same_number r s k e f =
    let first : base_at k ≡ r = subst (λ (o : Option ℕ). IfSome o (λ k. base_at k ≡ r)) e (number_tells r) in
    let second : base_at k ≡ s = subst (λ (o : Option ℕ). IfSome o (λ k. base_at k ≡ s)) f (number_tells s) in
    sym first ∙ second

-- with the bit of a base relation, a set has that one more
pub one_more : (old : BaseSet) (s : Rel) (k bits : ℕ) → base_number s ≡ Some k → bits ≡ bit_or old.bits (2 ^ k) → AreMore old (λ r. r ≡ s) (record { bits = bits })
one_more old s k bits is e r = by (base_number r) refl
  where
    new : BaseSet
    new = record { bits = bits }

    set : (j : ℕ) → bit_at bits j ≡ bit_at (bit_or old.bits (2 ^ k)) j
    set j = ap (λ (n : ℕ). bit_at n j) e

    by : (o : Option ℕ) → base_number r ≡ o → (has new r ≡ true) ↔ ((has old r ≡ true) ⊎ (Contains base_rels r × (r ≡ s)))
    by None f = (
      λ h. let both : true ≡ false = sym h ∙ not_numbered new r f in cc,
      λ h. elim h [
        | inl there ↦ let both : true ≡ false = sym there ∙ not_numbered old r f in cc
        | inr same ↦ absurd (none_there (base_number r) f (base_is_numbered r same.0))
      ],
    )
    by (Some j) f = (
      λ h. elim (cases_eq j k) [
        | inl same ↦ inr (numbered_is_base r (numbered r j f), same_number r s k (f ∙ ap (λ (n : ℕ). Some n) same) is)
        | inr other ↦ inl ((has_bit old r j f).1 (omega (arith, (has_bit new r j f).0 h, set j, bit_at_or old.bits (2 ^ k) j, bit_at-pow_other k j other, bit_at-lt old.bits j)))
      ],
      λ h. (has_bit new r j f).1 (elim h [
        | inl there ↦ omega (arith, (has_bit old r j f).0 there, set j, bit_at_or old.bits (2 ^ k) j, bit_at-lt (2 ^ k) j)
        | inr same ↦
            let at : Some j ≡ Some k = sym f ∙ ap base_number same.1 ∙ is in
            let at_k : j ≡ k = cc in
            subst (λ (n : ℕ). bit_at bits n ≡ 1) (sym at_k) (omega (arith, set k, bit_at_or old.bits (2 ^ k) k, bit_at-pow_same k, bit_at-lt old.bits k))
      ]),
    )

-- ---- bits that are set one after another

module _ (P : ℕ → Type 0) (bits k : ℕ) (so_far : (j : ℕ) → (bit_at bits j ≡ 1) ↔ ((j < k) × P j)) where
  -- the next bit is set where P holds of its number
  pub next_set : (new : ℕ) → new ≡ bit_or bits (2 ^ k) → P k → (j : ℕ) → (bit_at new j ≡ 1) ↔ ((j < k + 1) × P j)
  next_set new e holds j =
      let set : bit_at new j ≡ bit_at (bit_or bits (2 ^ k)) j = ap (λ (n : ℕ). bit_at n j) e in
      elim (cases_eq j k) [
        | inl same ↦ (
          λ h. (omega (arith, same), subst P (sym same) holds),
          λ both. subst (λ (n : ℕ). bit_at new n ≡ 1) (sym same) (omega (arith, ap (λ (n : ℕ). bit_at n k) e, bit_at_or bits (2 ^ k) k, bit_at-pow_same k, bit_at-lt bits k)),
        )
        | inr other ↦ (
          λ h. let both = (so_far j).0 (old j other set h) in (omega (arith, both.0), both.1),
          λ both. new_is j other set ((so_far j).1 (omega (arith, both.0, other), both.1)),
        )
      ]
    where
      old : (j : ℕ) → ¬ (j ≡ k) → bit_at new j ≡ bit_at (bit_or bits (2 ^ k)) j → bit_at new j ≡ 1 → bit_at bits j ≡ 1
      old j other set h = omega (arith, h, set, bit_at_or bits (2 ^ k) j, bit_at-pow_other k j other, bit_at-lt bits j)

      new_is : (j : ℕ) → ¬ (j ≡ k) → bit_at new j ≡ bit_at (bit_or bits (2 ^ k)) j → bit_at bits j ≡ 1 → bit_at new j ≡ 1
      new_is j other set h = omega (arith, h, set, bit_at_or bits (2 ^ k) j, bit_at-pow_other k j other, bit_at-lt bits j)

  -- and else it stays
  pub next_stays : ¬ P k → (j : ℕ) → (bit_at bits j ≡ 1) ↔ ((j < k + 1) × P j)
  next_stays not j = (
    λ h. let both = (so_far j).0 h in (omega (arith, both.0), both.1),
    λ both. elim (cases_eq j k) [
      | inl same ↦ absurd (not (subst P same both.1))
      | inr other ↦ (so_far j).1 (omega (arith, both.0, other), both.1)
    ],
  )

-- the bits of base relations fit
pub small_power : (k : ℕ) → k < 13 → 1 * 2 ^ k % 65536 ≡ 2 ^ k
small_power k small = let less : 2 ^ k < 2 ^ 16 = pow_below k 16 (omega (arith, small)) in omega (arith, less)
