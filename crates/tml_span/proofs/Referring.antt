-- A reference that bytes begin with.
use mathlib.Core.Logic.Dec
use native.Mathlib.Decide.{dec_le, ℕ_discrete}
use Rattle.std.proofs.Common.{◌≡◌, ◌↔◌, ◌⊎◌, inl, inr, ℕ, zero, suc, ◌≤◌, Bool, true, false, List, [], ◌∷◌, ◌++◌, length, take, drop, refl, sym, ap, subst, ◌∙◌, append_assoc, arith, Option, Some, None, length-take}
use Rattle.std.specs.Prelude.{codes, nat_eq, slice_get, Contains, IsTrue}
use Rattle.std.specs.List.{list_all, list_any, prefix_len, starts_with}
use Rattle.std.proofs.lemmas.Bool.Decides.{Decides-eqb}
use Rattle.std.proofs.lemmas.List.Folds.{Any-from_list_any, list_any_at}
use Rattle.std.proofs.lemmas.Option.{same_Some, slice_get_within}
use Rattle.std.proofs.lemmas.Slice.Eq.{starts_is}
use Rattle.named.proofs.Deciding.{all_three, either, by_test}
use Rattle.tml_span.specs.Bytes.{is_digit, is_hex_digit}
use Rattle.tml_span.specs.References.{named_references, HasPrefix, IsDecimalReference, IsHexReference, BeginsReference, EndsDigits}
use Rattle.tml_span.specs.Units.{BeginsWith}
use Rattle.tml_span.proofs.Closings.{begins_or_not}
use Rattle.tml_span.proofs.Runs.{prefix_len_again, prefix_passes}

-- what passes the test of one of some names begins with one of them
one_begins : (names : List (List ℕ)) (bytes : List ℕ) → list_any (starts_with nat_eq bytes) names ≡ true → HasPrefix (Contains names) bytes
one_begins names bytes h =
    let at = Any-from_list_any (starts_with nat_eq bytes) names h in
    let starts : starts_with nat_eq bytes at.1 ≡ true = at.4 in
    (at.1, drop (length at.1) bytes, (starts_is Decides-eqb bytes at.1 _ refl).0 starts, (at.0, at.2, at.3))

-- what begins with one of some names passes the test of one of them
begins_one : (names : List (List ℕ)) (bytes : List ℕ) → HasPrefix (Contains names) bytes → list_any (starts_with nat_eq bytes) names ≡ true
begins_one names bytes h =
    let at = h.3 in
    list_any_at (starts_with nat_eq bytes) names at.0 h.0 at.1 ((starts_is Decides-eqb bytes _ _ refl).1 h.1 (h.2 ∙ ap (λ (x : List ℕ). x ++ h.1) (sym at.2)))

-- the bytes begin with a reference of one of the three forms
pub one_form : (bytes : List ℕ) → BeginsReference bytes → HasPrefix (Contains named_references) bytes ⊎ HasPrefix IsDecimalReference bytes ⊎ HasPrefix IsHexReference bytes
one_form bytes (prefix, suffix, whole, inl h) = inl (prefix, suffix, whole, h)
one_form bytes (prefix, suffix, whole, inr (inl h)) = inr (inl (prefix, suffix, whole, h))
one_form bytes (prefix, suffix, whole, inr (inr h)) = inr (inr (prefix, suffix, whole, h))

pub reference_begins : (bytes : List ℕ) → HasPrefix (Contains named_references) bytes ⊎ HasPrefix IsDecimalReference bytes ⊎ HasPrefix IsHexReference bytes → BeginsReference bytes
reference_begins bytes (inl h) = (h.0, h.1, h.2, inl h.3)
reference_begins bytes (inr (inl h)) = (h.0, h.1, h.2, inr (inl h.3))
reference_begins bytes (inr (inr h)) = (h.0, h.1, h.2, inr (inr h.3))

-- the test of the named references says whether the bytes begin with one of them
pub named_begins : (bytes : List ℕ) (r : Bool) → r ≡ list_any (starts_with nat_eq bytes) named_references → IsTrue r ↔ HasPrefix (Contains named_references) bytes
named_begins bytes r e = (λ t. one_begins named_references bytes (sym e ∙ t), λ h. e ∙ begins_one named_references bytes h)

-- the bytes are those below an index, the byte there, and those after it
at_index : (bytes : List ℕ) (n x : ℕ) → slice_get bytes n ≡ Some x → bytes ≡ take n bytes ++ x ∷ drop (suc n) bytes
at_index [] n x h = absurd cc
at_index (b ∷ bytes) zero x h = cc
at_index (b ∷ bytes) (suc n) x h = ap (λ (xs : List ℕ). b ∷ xs) (at_index bytes n x h)

-- the byte after a prefix
byte_after : (prefix suffix : List ℕ) (x : ℕ) → slice_get (prefix ++ x ∷ suffix) (length prefix) ≡ Some x
byte_after [] suffix x = refl
byte_after (b ∷ prefix) suffix x = byte_after prefix suffix x

-- the bytes begin with digits of a kind, at least 1 and at most a number, and `;`
abbrev Closed : (ℕ → Bool) → ℕ → List ℕ → Type 0
Closed p most bytes = (digits : List ℕ) × (suffix : List ℕ) × (bytes ≡ digits ++ 59 ∷ suffix) × (1 ≤ length digits) × (length digits ≤ most) × (list_all p digits ≡ true)

-- a run of digits that is closed by `;`
closed : (p : ℕ → Bool) (most n : ℕ) (bytes : List ℕ) → n ≡ prefix_len p bytes → EndsDigits n most bytes → Closed p most bytes
closed p most n bytes e h =
    let len : length (take n bytes) ≡ n = omega (arith, length-take n bytes, slice_get_within bytes n 59 h.2) in
    (take n bytes, drop (suc n) bytes, at_index bytes n 59 h.2, omega (arith, len, h.0), omega (arith, len, h.1), subst (λ (m : ℕ). list_all p (take m bytes) ≡ true) (sym e) (prefix_passes p bytes))

-- digits that are closed by `;` are the run
closed_run : (p : ℕ → Bool) (most n : ℕ) (bytes : List ℕ) → p 59 ≡ false → n ≡ prefix_len p bytes → Closed p most bytes → EndsDigits n most bytes
closed_run p most n bytes other e h =
    let is : n ≡ length h.0 = e ∙ ap (prefix_len p) h.2 ∙ prefix_len_again p h.0 (59 ∷ h.1) h.5 other in
    let semicolon : slice_get bytes n ≡ Some 59 = ap (slice_get bytes) is ∙ ap (λ (x : List ℕ). slice_get x (length h.0)) h.2 ∙ byte_after h.0 h.1 59 in
    (omega (arith, is, h.3), omega (arith, is, h.4), semicolon)

-- the run of digits after `&#` says whether a decimal reference begins
pub decimal_begins : (bytes digits : List ℕ) (n : ℕ) → bytes ≡ codes "&#" ++ digits → n ≡ prefix_len is_digit digits → EndsDigits n 7 digits ↔ HasPrefix IsDecimalReference bytes
decimal_begins bytes digits n e len = (
  λ h. let c = closed is_digit 7 n digits len h in
      (codes "&#" ++ c.0 ++ codes ";", c.1, e ∙ ap (λ (x : List ℕ). codes "&#" ++ x) (c.2 ∙ sym (append_assoc c.0 (codes ";") c.1)), record { digits = c.0; whole = refl; some = c.3; most = c.4; kind = c.5 }),
  λ b. let d = b.3 in
      let whole : codes "&#" ++ digits ≡ codes "&#" ++ (d.digits ++ 59 ∷ b.1) = sym e ∙ b.2 ∙ ap (λ (x : List ℕ). x ++ b.1) d.whole ∙ simp append_assoc in
      closed_run is_digit 7 n digits refl len (d.digits, b.1, cc whole, d.some, d.most, d.kind),
)

-- the run of hexadecimal digits after `&#x` does the same
pub hex_begins : (bytes digits : List ℕ) (n : ℕ) → bytes ≡ codes "&#x" ++ digits → n ≡ prefix_len is_hex_digit digits → EndsDigits n 6 digits ↔ HasPrefix IsHexReference bytes
hex_begins bytes digits n e len = (
  λ h. let c = closed is_hex_digit 6 n digits len h in
      (codes "&#x" ++ c.0 ++ codes ";", c.1, e ∙ ap (λ (x : List ℕ). codes "&#x" ++ x) (c.2 ∙ sym (append_assoc c.0 (codes ";") c.1)), record { digits = c.0; whole = refl; some = c.3; most = c.4; kind = c.5 }),
  λ b. let d = b.3 in
      let whole : codes "&#x" ++ digits ≡ codes "&#x" ++ (d.digits ++ 59 ∷ b.1) = sym e ∙ b.2 ∙ ap (λ (x : List ℕ). x ++ b.1) d.whole ∙ simp append_assoc in
      closed_run is_hex_digit 6 n digits refl len (d.digits, b.1, cc whole, d.some, d.most, d.kind),
)

-- ---- deciding

-- the option is a number
is_number : (o : Option ℕ) (n : ℕ) → Dec (o ≡ Some n)
is_number None n = no (λ e. absurd cc)
is_number (Some b) n = Dec.of_iff (λ e. ap (λ (x : ℕ). Some x) e, λ e. same_Some b n e) (ℕ_discrete b n)

closed_or_not : (n most : ℕ) (digits : List ℕ) → Dec (EndsDigits n most digits)
closed_or_not n most digits = all_three (dec_le 1 n) (dec_le n most) (is_number (slice_get digits n) 59)

-- what begins with a mark is decided by what follows the mark
marked : (mark bytes : List ℕ) (Is : List ℕ → Type 0) → ((prefix : List ℕ) → Is prefix → BeginsWith mark prefix) → ((rest : List ℕ) → bytes ≡ mark ++ rest → Dec (HasPrefix Is bytes)) → Dec (HasPrefix Is bytes)
marked mark bytes Is begins decided = elim (begins_or_not mark bytes) [
  | yes here ↦ decided here.0 here.1
  | no not_here ↦ no (λ h. let at = begins h.0 h.3 in not_here (at.0 ++ h.1, h.2 ∙ ap (λ (x : List ℕ). x ++ h.1) at.1 ∙ append_assoc mark at.0 h.1))
]

decimal_or_not : (bytes : List ℕ) → Dec (HasPrefix IsDecimalReference bytes)
decimal_or_not bytes = marked (codes "&#") bytes IsDecimalReference (λ prefix d. (d.digits ++ codes ";", d.whole ∙ append_assoc (codes "&#") d.digits (codes ";")))
    (λ rest e. Dec.of_iff (decimal_begins bytes rest _ e refl) (closed_or_not _ 7 rest))

hex_or_not : (bytes : List ℕ) → Dec (HasPrefix IsHexReference bytes)
hex_or_not bytes = marked (codes "&#x") bytes IsHexReference (λ prefix d. (d.digits ++ codes ";", d.whole ∙ append_assoc (codes "&#x") d.digits (codes ";")))
    (λ rest e. Dec.of_iff (hex_begins bytes rest _ e refl) (closed_or_not _ 6 rest))

-- the bytes begin with a reference, or not
pub reference_or_not : (bytes : List ℕ) → Dec (BeginsReference bytes)
reference_or_not bytes = Dec.of_iff (reference_begins bytes, one_form bytes) (either (by_test _ (named_begins bytes _ refl)) (either (decimal_or_not bytes) (hex_or_not bytes)))
