-- Every source is cut whole or has a fault.
use mathlib.Core.Logic.Dec
use native.Mathlib.Decide.{dec_lt, ℕ_discrete}
use Rattle.std.proofs.Common.{◌≡◌, ◌⊎◌, inl, inr, ℕ, zero, suc, ◌+◌, ◌-◌, ◌≤◌, ◌<◌, List, [], ◌∷◌, length, take, drop, ap, subst, arith, length-append}
use Rattle.std.specs.Prelude.{IsUtf8, slice_index}
use Rattle.std.specs.Str.{is_utf8, IsValidUpTo}
use Rattle.std.proofs.lemmas.Bool.{cases_lt}
use Rattle.std.proofs.lemmas.List.{take_all}
use Rattle.std.proofs.lemmas.Str.{IsUtf8-nil, IsUtf8-from_is_utf8, is_utf8-from_IsUtf8}
use Rattle.faults.specs.declared.kind.FaultKind.TheVariants as fault
use Rattle.named.proofs.Deciding.{by_test, either, least_number, some_number}
use Rattle.tml_span.specs.Units.{PlainUnit}
use Rattle.tml_span.specs.Cutting.{Cuts, CutsFrom}
use Rattle.tml_span.specs.Faults.{CutOrFault, IsNotUtf8}
use Rattle.tml_span.specs.References.{IsBadAt, Piece, IsBadIn, IsBadInUnits, IsLeastPlace, IsNowhere, pieces_of}
use Rattle.tml_span.proofs.EveryCut.{every_cut_from}
use Rattle.tml_span.proofs.FirstBad.{bad_at_within, bad_here, bad_is, not_begun}
use Rattle.tml_span.proofs.Referring.{reference_or_not}

-- ---- UTF-8

utf8_or_not : (bytes : List ℕ) → Dec (IsUtf8 bytes)
utf8_or_not bytes = by_test (is_utf8 bytes) (IsUtf8-from_is_utf8 bytes, is_utf8-from_IsUtf8 bytes)

-- where no prefix from a length on is UTF-8, the longest valid one is shorter
valid_below : (n : ℕ) (source : List ℕ) → n ≤ length source → ((m : ℕ) → n ≤ m → IsUtf8 (take m source) → ⊥) → (place : ℕ) × IsValidUpTo source place
valid_below zero source within none = absurd (none 0 (omega arith) IsUtf8-nil)
valid_below (suc n) source within none = elim (utf8_or_not (take n source)) [
  | yes front ↦ (n, record { short = omega arith; front = front; longest = λ m more. none m (omega arith) })
  | no never ↦ valid_below n source (omega arith) (λ m from. elim (cases_lt n m) [
    | inl more ↦ none m (omega arith)
    | inr upto ↦ let same : m ≡ n = omega arith in λ h. never (subst (λ (k : ℕ). IsUtf8 (take k source)) same h)
  ])
]

-- what is not UTF-8 has a longest valid prefix
longest_valid : (source : List ℕ) → (IsUtf8 source → ⊥) → (place : ℕ) × IsNotUtf8 source place
longest_valid source never =
    let longest = valid_below (length source) source (omega arith) (λ m all h. never (subst IsUtf8 (take_all m source all) h)) in
    (longest.0, (never, longest.1))

-- ---- the first bad reference

-- an `&` is at an index with no reference, or not
bad_at_or_not : (bytes : List ℕ) (index : ℕ) → Dec (IsBadAt bytes index)
bad_at_or_not bytes index = elim (dec_lt index (length bytes)) [
  | yes within ↦ Dec.of_iff (λ h. bad_here bytes index within h.0 h.1, λ h. (bad_is bytes index h, not_begun bytes index h)) (Dec.and (ℕ_discrete (slice_index bytes index) 38) (Dec.not (reference_or_not (drop index bytes))))
  | no beyond ↦ no (λ h. beyond (bad_at_within bytes index h))
]

-- a place is bad in one of some pieces, or not
bad_in_or_not : (pieces : List Piece) (place : ℕ) → Dec (IsBadIn pieces place)
bad_in_or_not [] place = no (λ h. h)
bad_in_or_not (piece ∷ pieces) place = either
    (Dec.of_iff (λ h. (h.0, h.1.0, h.1.1), λ h. (h.0, (h.1, h.2)))
    (some_number (λ index. IsBadAt piece.1 index × (place ≡ piece.0 + index)) (λ index. Dec.and (bad_at_or_not piece.1 index) (ℕ_discrete place (piece.0 + index))) (length piece.1) (λ index h. bad_at_within piece.1 index h.0)))
    (bad_in_or_not pieces place)

-- a place is bad in one of some units, or not
bad_or_not : (units : List PlainUnit) (place : ℕ) → Dec (IsBadInUnits units place)
bad_or_not [] place = no (λ h. h)
bad_or_not (u ∷ units) place = either (bad_in_or_not (pieces_of u) place) (bad_or_not units place)

-- all bad places of pieces are below some number
bad_in_below : (pieces : List Piece) → (limit : ℕ) × ((place : ℕ) → IsBadIn pieces place → place < limit)
bad_in_below [] = (0, λ place h. absurd h)
bad_in_below (piece ∷ pieces) =
    let rest = bad_in_below pieces in (
      piece.0 + length piece.1 + rest.0,
      λ place h. elim h [
        | inl here ↦ omega (arith, here.2, bad_at_within piece.1 here.0 here.1)
        | inr later ↦ omega (arith, rest.1 place later)
      ],
    )

-- so are those of units
bad_below : (units : List PlainUnit) → (limit : ℕ) × ((place : ℕ) → IsBadInUnits units place → place < limit)
bad_below [] = (0, λ place h. absurd h)
bad_below (u ∷ units) =
    let first = bad_in_below (pieces_of u) in
    let rest = bad_below units in (
      first.0 + rest.0,
      λ place h. elim h [
        | inl here ↦ omega (arith, first.1 place here)
        | inr later ↦ omega (arith, rest.1 place later)
      ],
    )

first_or_nowhere : (units : List PlainUnit) → ((place : ℕ) × IsLeastPlace (IsBadInUnits units) place) ⊎ IsNowhere (IsBadInUnits units)
first_or_nowhere units = let limit = bad_below units in least_number (IsBadInUnits units) (bad_or_not units) limit.0 limit.1

-- ---- a source

-- the rest of a cut is no longer than what is cut
rest_within : (place : ℕ) (bytes : List ℕ) (units : List PlainUnit) (rest : List ℕ) → CutsFrom place bytes units rest → length rest ≤ length bytes
rest_within place bytes [] rest c = omega (arith, ap length c.0)
rest_within place bytes (u ∷ units) rest c = omega (arith, ap length c.2, length-append c.0 c.1, rest_within (place + length c.0) c.1 units rest c.5)

-- a source in whose cut no reference is bad
whole_or_markup : (source : List ℕ) → IsUtf8 source → (units : List PlainUnit) (rest : List ℕ) → Cuts source units rest → IsNowhere (IsBadInUnits units) → CutOrFault source
whole_or_markup source utf8 units [] c none = inl (units, (utf8, c, none))
whole_or_markup source utf8 units (b ∷ rest) c none =
    let within = rest_within 0 source units (b ∷ rest) c in
    inr (length source - length (b ∷ rest), fault.BadMarkup, (utf8, units, b ∷ rest, c, none, (λ e. absurd cc), omega arith))

pub cut_or_fault : (source : List ℕ) → CutOrFault source
cut_or_fault source = elim (utf8_or_not source) [
  | yes utf8 ↦
      let cut = every_cut_from (length source) 0 source (omega arith) in
      elim (first_or_nowhere cut.0) [
        | inl bad ↦ inr (bad.0, fault.BadReference, (utf8, cut.0, cut.1.0, cut.1.1, bad.1))
        | inr none ↦ whole_or_markup source utf8 cut.0 cut.1.0 cut.1.1 none
      ]
  | no never ↦ let valid = longest_valid source never in inr (valid.0, fault.NotUtf8, valid.1)
]
