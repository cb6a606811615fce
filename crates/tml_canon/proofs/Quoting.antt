-- Values between double quotes, in which `&quot;` stands for `"`.
use Rattle.std.proofs.Common.{◌≡◌, inl, inr, ℕ, ◌+◌, Bool, true, false, cond, not, List, [], ◌∷◌, ◌++◌, length, refl, sym, ap, subst, ◌∙◌, append_assoc, arith, length-append}
use Rattle.std.specs.Prelude.{codes, nat_eq, Contains, IsUtf8}
use Rattle.std.specs.List.{list_all}
use Rattle.std.proofs.lemmas.Bool.{and_parts, and_from, both_ways, eqb-true}
use Rattle.std.proofs.lemmas.Bool.Decides.{nat_tests}
use Rattle.std.proofs.lemmas.List.{append-nil}
use Rattle.std.proofs.lemmas.List.Concat.{flat_map-append}
use Rattle.std.proofs.lemmas.List.Elements.{All-contains, All-from_recursion}
use Rattle.std.proofs.lemmas.Str.{IsUtf8-append}
use Rattle.named.proofs.Lists.{all_append, all_weaker}
use Rattle.tml_span.specs.Bytes.{is_digit, is_hex_digit, is_text_byte, is_value_byte}
use Rattle.tml_span.specs.References.{named_references, IsReference, BeginsReference}
use Rattle.tml_span.specs.Written.{double_quote, HasGoodReferences}
use Rattle.tml_span.proofs.Utf8.{ascii_utf8, is_ascii, parted}
use Rattle.tml_canon.specs.Canonical.{quoted, quoted_byte}

-- ---- bytes that are not changed

-- a byte that is no double quote
abbrev is_other : ℕ → Bool
is_other b = not (nat_eq b double_quote)

-- such a byte stays as it is
other_stays : (b : ℕ) → is_other b ≡ true → quoted_byte b ≡ b ∷ []
other_stays b h = elim (nat_eq b double_quote) as (λ t. not t ≡ true → cond t (codes "&quot;") (b ∷ []) ≡ b ∷ []) [ true ↦ λ e. absurd cc | false ↦ λ e. refl ] h

-- a value without double quotes stays as it is
others_stay : (value : List ℕ) → list_all is_other value ≡ true → quoted value ≡ value
others_stay [] h = refl
others_stay (b ∷ value) h =
    let s = and_parts (is_other b) (list_all is_other value) h in
    λ i. other_stays b s.0 i ++ others_stay value s.1 i

-- ---- references

-- a digit is no double quote
digit_is_other : (b : ℕ) → is_digit b ≡ true → is_other b ≡ true
digit_is_other b h = grind (arith, nat_tests)

-- and a hexadecimal digit is none
hex_digit_is_other : (b : ℕ) → is_hex_digit b ≡ true → is_other b ≡ true
hex_digit_is_other b h = grind (arith, nat_tests)

-- no double quote is in a reference
reference_others : (bytes : List ℕ) → IsReference bytes → list_all is_other bytes ≡ true
reference_others bytes (inl named) =
    All-contains (λ (r : List ℕ). list_all is_other r ≡ true) named_references bytes
    (All-from_recursion (λ (r : List ℕ). list_all is_other r ≡ true) named_references (refl, (refl, (refl, (refl, (refl, tt)))))) named
reference_others bytes (inr (inl decimal)) = rw decimal.whole
    (all_append is_other (codes "&#" ++ decimal.digits) (codes ";") (all_append is_other (codes "&#") decimal.digits refl (all_weaker is_digit is_other digit_is_other decimal.digits decimal.kind)) refl)
reference_others bytes (inr (inr hex)) = rw hex.whole
    (all_append is_other (codes "&#x" ++ hex.digits) (codes ";") (all_append is_other (codes "&#x") hex.digits refl (all_weaker is_hex_digit is_other hex_digit_is_other hex.digits hex.kind)) refl)

-- where a reference begins in a value, it begins in the quoted value
still_begins : (value : List ℕ) → BeginsReference value → BeginsReference (quoted value)
still_begins value (prefix, suffix, whole, reference) =
    let stays = others_stay prefix (reference_others prefix reference) in
    (prefix, quoted suffix, ap quoted whole ∙ flat_map-append quoted_byte prefix suffix ∙ ap (λ (x : List ℕ). x ++ quoted suffix) stays, reference)

-- if the first byte is an `&`, it is not so that no reference begins with it
abbrev IsGoodHead : ℕ → List ℕ → Type 0
IsGoodHead b bytes = b ≡ 38 → (BeginsReference (b ∷ bytes) → ⊥) → ⊥

-- in bytes with good references the first is no bad `&`
good_head : (b : ℕ) (bytes : List ℕ) → HasGoodReferences (b ∷ bytes) → IsGoodHead b bytes
good_head b bytes h e none = h 0 (record {
  prefix = [];
  suffix = bytes;
  whole = ap (λ (c : ℕ). c ∷ bytes) e;
  index_is = refl;
  bad = λ begins. none (subst (λ (c : ℕ). BeginsReference (c ∷ bytes)) (sym e) begins);
})

-- and those after it have good references
good_tail : (b : ℕ) (bytes : List ℕ) → HasGoodReferences (b ∷ bytes) → HasGoodReferences bytes
good_tail b bytes h place bad = h (place + 1) (record {
  prefix = b ∷ bad.prefix;
  suffix = bad.suffix;
  whole = ap (λ (x : List ℕ). b ∷ x) bad.whole;
  index_is = omega (arith, bad.index_is);
  bad = bad.bad;
})

-- where the first byte is no bad `&` and those after it have good references, no `&` is bad
no_bad : (b : ℕ) (bytes prefix suffix : List ℕ) → IsGoodHead b bytes → HasGoodReferences bytes → b ∷ bytes ≡ prefix ++ (38 ∷ suffix) → (BeginsReference (38 ∷ suffix) → ⊥) → ⊥
no_bad b bytes [] suffix head tail e none = head (cc e) (λ begins. none (subst BeginsReference e begins))
no_bad b bytes (c ∷ prefix) suffix head tail e none = tail (length prefix) (record { prefix = prefix; suffix = suffix; whole = cc e; index_is = refl; bad = none })

-- a byte that is no bad `&` before bytes with good references makes none bad
good_cons : (b : ℕ) (bytes : List ℕ) → IsGoodHead b bytes → HasGoodReferences bytes → HasGoodReferences (b ∷ bytes)
good_cons b bytes head tail place bad = no_bad b bytes bad.prefix bad.suffix head tail bad.whole bad.bad

-- where there are no bytes, no reference is bad
good_nil : HasGoodReferences []
good_nil place bad = grind (arith, ap length bad.whole, length-append bad.prefix (38 ∷ bad.suffix))

-- a byte that is no `&`
abbrev is_no_reference : ℕ → Bool
is_no_reference b = not (nat_eq b 38)

-- bytes without `&` before bytes with good references make none bad
good_after : (xs bytes : List ℕ) → list_all is_no_reference xs ≡ true → HasGoodReferences bytes → HasGoodReferences (xs ++ bytes)
good_after [] bytes h good = good
good_after (x ∷ xs) bytes h good =
    let s = and_parts (is_no_reference x) (list_all is_no_reference xs) h in
    good_cons x (xs ++ bytes) (λ e. absurd (both_ways (is_no_reference x) (ap is_no_reference e) s.0)) (good_after xs bytes s.1 good)

-- where no `&` is, no reference is bad
pub no_references : (bytes : List ℕ) → list_all is_no_reference bytes ≡ true → HasGoodReferences bytes
no_references bytes h = subst HasGoodReferences (append-nil bytes) (good_after bytes [] h good_nil)

-- `&quot;` is a reference
quote_is_named : Contains named_references (codes "&quot;")
quote_is_named = (3, omega arith, refl)

-- `&quot;` before bytes with good references makes none bad
good_quote : (bytes : List ℕ) → HasGoodReferences bytes → HasGoodReferences (codes "&quot;" ++ bytes)
good_quote bytes h =
    let begins : BeginsReference (codes "&quot;" ++ bytes) = (codes "&quot;", bytes, refl, inl quote_is_named) in
    good_cons 38 (codes "quot;" ++ bytes) (λ e none. none begins) (good_after (codes "quot;") bytes refl h)

-- a quoted value has good references where the value has
pub quoted_references : (value : List ℕ) → HasGoodReferences value → HasGoodReferences (quoted value)
quoted_references [] h = h
quoted_references (b ∷ value) h =
    let rest = quoted_references value (good_tail b value h) in
    let still : BeginsReference (b ∷ value) → BeginsReference (quoted (b ∷ value)) = still_begins (b ∷ value) in
    elim (nat_eq b double_quote) as (λ t. (BeginsReference (b ∷ value) → BeginsReference (cond t (codes "&quot;") (b ∷ []) ++ quoted value)) → HasGoodReferences (cond t (codes "&quot;") (b ∷ []) ++ quoted value)) [
      | true ↦ λ _. good_quote (quoted value) rest
      | false ↦ λ begins. good_cons b (quoted value) (λ e none. good_head b value h e (λ k. none (begins k))) rest
    ] still

-- ---- bytes of a value

-- a byte of a text that is no double quote can stand between double quotes
value_byte : (b : ℕ) → is_text_byte b ≡ true → is_other b ≡ true → is_value_byte double_quote b ≡ true
value_byte b h k = and_from (is_other b) (is_text_byte b) k h

-- and so can one byte that is quoted
quoted_one : (b : ℕ) → is_text_byte b ≡ true → list_all (is_value_byte double_quote) (quoted_byte b) ≡ true
quoted_one b h = elim (nat_eq b double_quote) as (λ t. nat_eq b double_quote ≡ t → list_all (is_value_byte double_quote) (cond t (codes "&quot;") (b ∷ [])) ≡ true) [
  | true ↦ λ e. refl
  | false ↦ λ e. and_from (is_value_byte double_quote b) true (value_byte b h (ap not e)) refl
] refl

-- a quoted value can stand between double quotes where the value has no `<`
pub quoted_value : (value : List ℕ) → list_all is_text_byte value ≡ true → list_all (is_value_byte double_quote) (quoted value) ≡ true
quoted_value [] h = refl
quoted_value (b ∷ value) h =
    let s = and_parts (is_text_byte b) (list_all is_text_byte value) h in
    let rest = quoted_value value s.1 in
    let one : list_all (is_value_byte double_quote) (quoted_byte b) ≡ true = quoted_one b s.0 in
    all_append (is_value_byte double_quote) (quoted_byte b) (quoted value) one rest

-- ---- UTF-8

-- a double quote is ASCII
ascii_quote : (b : ℕ) → nat_eq b double_quote ≡ true → is_ascii b ≡ true
ascii_quote b e = ap is_ascii (eqb-true b double_quote e)

-- bytes and a value after them stay UTF-8 where the value is quoted
quoted_after : (front value : List ℕ) → IsUtf8 (front ++ value) → IsUtf8 (front ++ quoted value)
quoted_after front [] h = h
quoted_after front (b ∷ value) h =
    elim (nat_eq b double_quote) as (λ t. nat_eq b double_quote ≡ t → IsUtf8 (front ++ (cond t (codes "&quot;") (b ∷ []) ++ quoted value))) [
      | true ↦ λ e.
          let parts = parted front b value (ascii_quote b e) h in
          IsUtf8-append front (codes "&quot;" ++ quoted value) parts.0 (IsUtf8-append (codes "&quot;") (quoted value) (ascii_utf8 (codes "&quot;") refl) (quoted_after [] value parts.1))
      | false ↦ λ e. subst IsUtf8 (append_assoc front (b ∷ []) (quoted value)) (quoted_after (front ++ b ∷ []) value (subst IsUtf8 (sym (append_assoc front (b ∷ []) value)) h))
    ] refl

-- a quoted value is UTF-8 where the value is
pub quoted_utf8 : (value : List ℕ) → IsUtf8 value → IsUtf8 (quoted value)
quoted_utf8 value h = quoted_after [] value h
