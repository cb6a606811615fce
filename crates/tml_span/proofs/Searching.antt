-- A search for the end of a text measures the text, and one in two parts is a search of the whole.
use Rattle.std.proofs.Common.{◌≡◌, ◌∙◌, ℕ, ◌+◌, ◌-◌, ◌<◌, ◌≤◌, Bool, true, false, not, List, get_or, length, take, drop, refl, sym, ap, arith, Some, None, inl, inr, length-take, length-drop}
use Rattle.std.specs.List.{prefix_len}
use Rattle.std.proofs.lemmas.Bool.{cases_lt}
use Rattle.std.proofs.lemmas.List.{get_or-drop, get_or-take}
use Rattle.std.proofs.lemmas.List.Sums.{prefix_len_is}
use Rattle.memchr.specs.Find.{IsFirstByte, Nowhere, Passes, is_byte}
use Rattle.tml_span.specs.Bytes.{is_text_byte}

not_true : (b : Bool) → (b ≡ true → ⊥) → not b ≡ true
not_true true h = absurd (h refl)
not_true false h = refl

pub text_ends : (bytes : List ℕ) (n : ℕ) → IsFirstByte (is_byte 60) bytes (Some n) → n ≡ prefix_len is_text_byte bytes
text_ends bytes n h = sym (prefix_len_is is_text_byte bytes n 0 (omega (arith, h.0.high)) (λ k l. not_true _ (h.0.before k (omega arith) l)) (λ l. ap not h.1))

pub all_text : (bytes : List ℕ) → IsFirstByte (is_byte 60) bytes None → length bytes ≡ prefix_len is_text_byte bytes
all_text bytes h = sym (prefix_len_is is_text_byte bytes (length bytes) 0 (omega arith) (λ k l. not_true _ (h k (omega arith) l)) (λ l. absurd (omega arith)))

-- what is first among the first bytes is first of all
pub first_near : (p : ℕ → Bool) (bytes : List ℕ) (n k : ℕ) → n ≤ length bytes → IsFirstByte p (take n bytes) (Some k) → IsFirstByte p bytes (Some k)
first_near p bytes n k within h =
    let below : k < n = omega (arith, h.0.high, length-take n bytes) in (
      record { low = omega arith; high = omega arith; before = λ j low lt passes. h.0.before j low lt (ap p (get_or-take n bytes j 0 (omega arith)) ∙ passes) },
      ap p (sym (get_or-take n bytes k 0 below)) ∙ h.1,
    )

-- what neither the first bytes nor those after them hold stands in none of both
none_in_both : (p : ℕ → Bool) (bytes : List ℕ) (n k : ℕ) → n ≤ length bytes → IsFirstByte p (take n bytes) None → Nowhere (Passes p (drop n bytes)) 0 k → Nowhere (Passes p bytes) 0 (n + k)
none_in_both p bytes n k within near far j low lt passes = elim (cases_lt j n) [
  | inl here ↦ near j (omega arith) (omega (arith, length-take n bytes)) (ap p (get_or-take n bytes j 0 here) ∙ passes)
  | inr past ↦
      let at : n + (j - n) ≡ j = omega arith in
      far (j - n) (omega arith) (omega arith) (ap p (get_or-drop n bytes (j - n) 0 ∙ ap (λ (i : ℕ). get_or bytes i 0) at) ∙ passes)
]

pub first_far : (p : ℕ → Bool) (bytes : List ℕ) (n k : ℕ) → n ≤ length bytes → IsFirstByte p (take n bytes) None → IsFirstByte p (drop n bytes) (Some k) → IsFirstByte p bytes (Some (n + k))
first_far p bytes n k within near far = (
  record { low = omega arith; high = omega (arith, far.0.high, length-drop n bytes); before = none_in_both p bytes n k within near far.0.before },
  ap p (sym (get_or-drop n bytes k 0)) ∙ far.1,
)

pub none_far : (p : ℕ → Bool) (bytes : List ℕ) (n : ℕ) → n ≤ length bytes → IsFirstByte p (take n bytes) None → IsFirstByte p (drop n bytes) None → IsFirstByte p bytes None
none_far p bytes n within near far j low lt = none_in_both p bytes n (length (drop n bytes)) within near far j low (omega (arith, length-drop n bytes))
