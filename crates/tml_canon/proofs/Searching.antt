-- A value between double quotes, as a search for the next `"` finds it.
use Rattle.std.proofs.Common.{◌≡◌, ℕ, suc, ◌+◌, ◌-◌, ◌<◌, Bool, false, true, cond, Some, None, List, [], ◌∷◌, ◌++◌, length, take, drop, refl, sym, ap, subst, ◌∙◌, arith, append_assoc, length-take}
use Rattle.std.specs.Prelude.{◌==◌, codes, slice_index}
use Rattle.std.proofs.lemmas.Bool.{eqb-true, false_from_ne_true}
use Rattle.std.proofs.lemmas.List.{take-append-drop, take_rest, drop_more, get_or-take}
use Rattle.std.proofs.lemmas.Grind.{flat_map-append}
use Rattle.memchr.specs.Find.{IsFirstByte, is_byte}
use Rattle.tml_canon.specs.Canonical.{quoted, quoted_byte}

-- no byte of these is a `"`
abbrev pub HasNoQuote : List ℕ → Type 0
HasNoQuote bytes = (k : ℕ) → k < length bytes → is_byte 34 (slice_index bytes k) ≡ true → ⊥

-- where there is no `"` nothing changes
pub quoted_plain : (bytes : List ℕ) → HasNoQuote bytes → quoted bytes ≡ bytes
quoted_plain [] none = refl
quoted_plain (b ∷ bytes) none =
    let here : (b == 34) ≡ false = false_from_ne_true (b == 34) (none 0 (omega arith)) in
    let rest : quoted bytes ≡ bytes = quoted_plain bytes (λ k below is. none (suc k) (omega arith) is) in
    ap (λ (test : Bool). cond test (codes "&quot;") (b ∷ []) ++ quoted bytes) here ∙ ap (λ (s : List ℕ). b ∷ s) rest

-- a search that finds no `"` has nothing to change
pub none_found : (bytes : List ℕ) → IsFirstByte (is_byte 34) bytes None → quoted bytes ≡ bytes
none_found bytes h = quoted_plain bytes (λ k below is. h k (omega arith) below is)

-- up to the first `"` nothing changes, `&quot;` stands for it, and what follows goes on
pub first_found : (bytes : List ℕ) (at : ℕ) → IsFirstByte (is_byte 34) bytes (Some at) → take at bytes ++ codes "&quot;" ++ quoted (drop (at + 1) bytes) ≡ quoted bytes
first_found bytes at h =
    let below : at < length bytes = h.0.high in
    let before : quoted (take at bytes) ≡ take at bytes =
    quoted_plain (take at bytes) (λ k l is.
    let within : k < at = omega (arith, length-take at bytes) in
    h.0.before k (omega arith) within (subst (λ (b : ℕ). is_byte 34 b ≡ true) (get_or-take at bytes k 0 within) is)) in
    let quote : quoted_byte (slice_index bytes at) ≡ codes "&quot;" = ap quoted_byte (eqb-true _ _ h.1) in
    let split : bytes ≡ take at bytes ++ slice_index bytes at ∷ drop (at + 1) bytes =
    sym (take-append-drop at bytes) ∙ ap (λ (s : List ℕ). take at bytes ++ s) (drop_more bytes at 0 below) in
    let parts : quoted bytes ≡ quoted (take at bytes) ++ (quoted_byte (slice_index bytes at) ++ quoted (drop (at + 1) bytes)) =
    ap quoted split ∙ flat_map-append quoted_byte (take at bytes) (slice_index bytes at ∷ drop (at + 1) bytes) in
    append_assoc (take at bytes) (codes "&quot;") (quoted (drop (at + 1) bytes)) ∙ sym (parts ∙ λ i. before i ++ (quote i ++ quoted (drop (at + 1) bytes)))

-- what stands before a `"` is put last and then `&quot;`: what follows is still to be put last
pub quote_passed : (out before after rest all : List ℕ) (at : ℕ) → IsFirstByte (is_byte 34) rest (Some at) → out ++ quoted rest ≡ all
    → before ≡ out ++ take at rest → after ≡ before ++ codes "&quot;" → after ++ quoted (take (length rest - (at + 1)) (drop (at + 1) rest)) ≡ all
quote_passed out before after rest all at found whole put quote =
    let left : quoted (take (length rest - (at + 1)) (drop (at + 1) rest)) ≡ quoted (drop (at + 1) rest) = ap quoted (take_rest rest (at + 1)) in
    let put_is : after ≡ (out ++ take at rest) ++ codes "&quot;" = quote ∙ ap (λ (s : List ℕ). s ++ codes "&quot;") put in
    (λ i. put_is i ++ left i)
    ∙ append_assoc (out ++ take at rest) (codes "&quot;") (quoted (drop (at + 1) rest))
    ∙ append_assoc out (take at rest) (codes "&quot;" ++ quoted (drop (at + 1) rest))
    ∙ ap (λ (s : List ℕ). out ++ s) (sym (append_assoc (take at rest) (codes "&quot;") (quoted (drop (at + 1) rest))) ∙ first_found rest at found)
    ∙ whole
