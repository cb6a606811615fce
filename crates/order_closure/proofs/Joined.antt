-- A row of a plane, joined with other words.
use Rattle.std.proofs.Common.{rules, ◌≡◌, ◌⊎◌, ℕ, ◌+◌, ◌-◌, ◌*◌, ◌/◌, ◌%◌, ◌<◌, ◌≤◌, List, length, take, drop, get_or, sym, ap, subst, ◌∙◌, arith, inl, inr, bit_or}
use Rattle.std.specs.Int.{bit_at}
use Rattle.std.specs.Int.Bits.{or_zero_r}
use borrow.Rule.Slice.PartMut.{put_mid}
use Rattle.std.proofs.lemmas.Bool.{cases_lt}
use Rattle.std.proofs.lemmas.Nat.Bits.{bit_at_or}
use Rattle.std.proofs.lemmas.List.{places, length-drop, get_or-take, get_or-drop, length-take-le}
use Rattle.order_closure.specs.Planes.{AreUsed, IsRowJoined}
use Rattle.order_closure.proofs.Bits.{word_below, row_within}

-- a place of what was put into a list, before it and after it
put_inside : (a k j : ℕ) (xs row : List ℕ) → a ≤ length xs → j < length row → get_or (put_mid a k xs row) (a + j) 0 ≡ get_or row j 0
put_inside a k j xs row h l = search (rules, places)

put_before : (a k p : ℕ) (xs row : List ℕ) → a ≤ length xs → p < a → get_or (put_mid a k xs row) p 0 ≡ get_or xs p 0
put_before a k p xs row h l = search (rules, places)

put_after : (a k p : ℕ) (xs row : List ℕ) → a + k ≤ length xs → length row ≡ k → a + k ≤ p → get_or (put_mid a k xs row) p 0 ≡ get_or xs p 0
put_after a k p xs row h e l = search (rules, places)

-- a place of a part of a list
part_at : (a k j : ℕ) (xs : List ℕ) → j < k → get_or (take k (drop a xs)) j 0 ≡ get_or xs (a + j) 0
part_at a k j xs lt = get_or-take k (drop a xs) j 0 lt ∙ get_or-drop a xs j 0

-- words joined with others, put into a part of row i beside which the others have no bits
module _ (w i s e : ℕ) (over xs row : List ℕ) (fits : i * w + w ≤ length xs) (used : AreUsed w over s e) (len : length row ≡ e - s)
    (is : (k : ℕ) → k < e - s → get_or row k 0 ≡ bit_or (get_or xs (i * w + s + k) 0) (get_or over (s + k) 0)) where
  abbrev new : List ℕ
  new = put_mid (i * w + s) (e - s) xs row

  -- a word of the row
  joined_word : (k : ℕ) → k < w → get_or new (i * w + k) 0 ≡ bit_or (get_or xs (i * w + k) 0) (get_or over k 0)
  joined_word k lk = elim (cases_lt k s) [
    | inl less ↦ put_before (i * w + s) (e - s) (i * w + k) xs row (omega (arith, used.order, used.within)) (omega (arith, less)) ∙ clear_word k lk (inl less)
    | inr past ↦ elim (cases_lt k e) [
      | inl inside ↦
          let at : i * w + s + (k - s) ≡ i * w + k = omega (arith, past) in
          let over_at : s + (k - s) ≡ k = omega (arith, past) in
          let within : k - s < e - s = omega (arith, past, inside) in
          ap (λ (n : ℕ). get_or new n 0) (sym at) ∙ put_inside (i * w + s) (e - s) (k - s) xs row (omega (arith, used.order, used.within)) (omega (arith, len, within)) ∙ is (k - s) within
          ∙ (λ j. bit_or (get_or xs (at j) 0) (get_or over (over_at j) 0))
      | inr after ↦ put_after (i * w + s) (e - s) (i * w + k) xs row (omega (arith, used.order, used.within)) len (omega (arith, after, used.order)) ∙ clear_word k lk (inr after)
    ]
  ]
    where
      clear_word : (k : ℕ) → k < w → (k < s) ⊎ (e ≤ k) → get_or xs (i * w + k) 0 ≡ bit_or (get_or xs (i * w + k) 0) (get_or over k 0)
      clear_word k lk out = sym (ap (bit_or (get_or xs (i * w + k) 0)) (used.clear k lk out) ∙ or_zero_r (get_or xs (i * w + k) 0))

  put_part : IsRowJoined w i over xs new
  put_part = record {
    joined = λ j lj. ap (λ n. bit_at n (j % 64)) (joined_word (j / 64) (word_below w j lj)) ∙ bit_at_or (get_or xs (i * w + j / 64) 0) (get_or over (j / 64) 0) (j % 64);
    others = λ r j differ lj.
        let lk = word_below w j lj in
        ap (λ n. bit_at n (j % 64)) (elim (cases_lt r i) [
          | inl less ↦ put_before (i * w + s) (e - s) (r * w + j / 64) xs row (omega (arith, used.order, used.within)) (omega (arith, row_within w r i less))
          | inr at ↦ let more : i < r = omega arith in put_after (i * w + s) (e - s) (r * w + j / 64) xs row (omega (arith, used.order, used.within)) len (omega (arith, row_within w i r more, used.order, used.within))
        ]);
  }

-- the same of a part of a plane
pub row_joined : (w i s e : ℕ) (over xs row : List ℕ) (k : ℕ) → k ≡ e - s → i * w + w ≤ length xs → AreUsed w over s e → e ≤ length over
    → length row ≡ length (take k (drop (i * w + s) xs))
    → ((j : ℕ) → j < length (take k (drop (i * w + s) xs)) → get_or row j 0 ≡ bit_or (get_or (take k (drop (i * w + s) xs)) j 0) (get_or (take (e - s) (drop s over)) j 0))
    → IsRowJoined w i over xs (put_mid (i * w + s) k xs row)
row_joined w i s e over xs row k same fits used long len is =
    let some : k ≤ length (drop (i * w + s) xs) = omega (arith, length-drop (i * w + s) xs, same, used.order, used.within) in
    let all : length (take k (drop (i * w + s) xs)) ≡ k = length-take-le k (drop (i * w + s) xs) some in
    subst (λ (m : ℕ). IsRowJoined w i over xs (put_mid (i * w + s) m xs row)) (sym same)
    (put_part w i s e over xs row fits used (len ∙ all ∙ same) (λ j lj.
    is j (omega (arith, lj, all, same)) ∙ (λ p. bit_or (part_at (i * w + s) k j xs (omega (arith, lj, same)) p) (part_at s (e - s) j over lj p))))
