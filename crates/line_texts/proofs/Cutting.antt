-- The first line of a text.
use Rattle.std.proofs.Common.{◌≡◌, ℕ, ◌+◌, ◌<◌, min, true, false, cond, eqb, not, List, [], ◌∷◌, length, take, drop, refl, sym, ◌∙◌, one-add, arith}
use Rattle.std.specs.List.{prefix_len}
use Rattle.line_texts.specs.Lines.{with_byte, lines_of}
use Rattle.line_texts.specs.Words.{is_not}

-- how many bytes the first line has
abbrev first_len : List ℕ → ℕ
first_len [] = 0
first_len (b ∷ bytes) = cond (eqb b 10) 1 (1 + first_len bytes)

-- the first line is cut off by its length
first_line : (b : ℕ) (bytes : List ℕ) → lines_of (b ∷ bytes) ≡ take (first_len (b ∷ bytes)) (b ∷ bytes) ∷ lines_of (drop (first_len (b ∷ bytes)) (b ∷ bytes))
unfolding lines_of
first_line b [] = elim (eqb b 10) as (λ t. cond t ((b ∷ []) ∷ []) ((b ∷ []) ∷ []) ≡ take (cond t 1 1) (b ∷ []) ∷ lines_of (drop (cond t 1 1) (b ∷ []))) [ true ↦ refl | false ↦ refl ]
first_line b (c ∷ bytes) = elim (eqb b 10) as (λ t. cond t ((b ∷ []) ∷ lines_of (c ∷ bytes)) (with_byte b (lines_of (c ∷ bytes))) ≡ take (cond t 1 (1 + first_len (c ∷ bytes))) (b ∷ c ∷ bytes) ∷ lines_of (drop (cond t 1 (1 + first_len (c ∷ bytes))) (b ∷ c ∷ bytes))) [
  | true ↦ refl
  | false ↦ rw (first_line c bytes, one-add (first_len (c ∷ bytes))) refl
]

-- it reaches past the first LF, or to the end
first_len-is : (bytes : List ℕ) → first_len bytes ≡ min (length bytes) (prefix_len (is_not 10) bytes + 1)
first_len-is [] = omega arith
first_len-is (b ∷ bytes) = elim (eqb b 10) as (λ t. cond t 1 (1 + first_len bytes) ≡ min (length (b ∷ bytes)) (cond (not t) (1 + prefix_len (is_not 10) bytes) 0 + 1)) [
  | true ↦ omega arith
  | false ↦ omega (arith, first_len-is bytes)
]

-- the first line is what is cut off past the first LF
pub first_cut : (bytes : List ℕ) (k : ℕ) → 0 < length bytes → k ≡ min (length bytes) (prefix_len (is_not 10) bytes + 1) → lines_of bytes ≡ take k bytes ∷ lines_of (drop k bytes)
first_cut [] k h e = absurd (omega arith)
first_cut (b ∷ bytes) k h e = let same : k ≡ first_len (b ∷ bytes) = e ∙ sym (first_len-is (b ∷ bytes)) in rw same (first_line b bytes)

-- no bytes have no lines
pub no_lines : (bytes : List ℕ) → length bytes ≡ 0 → lines_of bytes ≡ []
unfolding lines_of
no_lines [] e = refl
no_lines (b ∷ bytes) e = absurd (omega arith)
