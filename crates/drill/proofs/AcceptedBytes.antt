-- Plain bytes: ASCII without `<`, `&` and `"`. What is made of them can be written in an attribute.
use Rattle.std.proofs.Common.{◌≡◌, ℕ, ◌+◌, ◌<◌, ◌%◌, ◌^◌, Bool, true, false, ◌&&◌, not, List, [], ◌∷◌, ◌++◌, decimal, refl, subst, arith, rules}
use Rattle.std.specs.Prelude.{codes}
use Rattle.std.specs.List.{list_all}
use Rattle.std.proofs.lemmas.Bool.{and_parts, and_from, both_ways}
use Rattle.std.proofs.lemmas.Bool.Decides.{nat_tests}
use Rattle.std.proofs.lemmas.Fmt.{decimal_by_steps}
use Rattle.named.proofs.Lists.{all_append, all_weaker}
use Rattle.net_core.specs.declared.rels.Rel.{Rel}
use Rattle.net_core.specs.Rels.{rel_text}
use Rattle.tml_span.specs.Bytes.{is_digit, is_in, is_value_byte}
use Rattle.tml_span.specs.Written.{double_quote, HasGoodReferences}
use Rattle.tml_span.proofs.Utf8.{is_ascii}
use Rattle.drill.specs.Texts.{event_name, instance_name}

-- one that is none of `<`, `&` and `"`
abbrev pub is_plain : ℕ → Bool
is_plain b = is_ascii b && not (is_in (codes "<&\"") b)

-- ---- tests of all bytes

-- a byte that fails the test is none of these
pub none_fails : (p : ℕ → Bool) (before after : List ℕ) (b : ℕ) → p b ≡ false → list_all p (before ++ b ∷ after) ≡ true → ⊥
none_fails p [] after b f h = both_ways (p b) f (and_parts (p b) (list_all p after) h).0
none_fails p (c ∷ before) after b f h = none_fails p before after b f (and_parts (p c) (list_all p (before ++ b ∷ after)) h).1

-- ---- plain bytes

-- a plain byte can stand in a value
plain_is_value : (b : ℕ) → is_plain b ≡ true → is_value_byte double_quote b ≡ true
plain_is_value b h = grind (arith, nat_tests)

-- and it is ASCII
plain_is_ascii : (b : ℕ) → is_plain b ≡ true → is_ascii b ≡ true
plain_is_ascii b h = (and_parts (is_ascii b) (not (is_in (codes "<&\"") b)) h).0

-- they can stand in a value
pub plain_value : (bs : List ℕ) → list_all is_plain bs ≡ true → list_all (is_value_byte double_quote) bs ≡ true
plain_value bs h = all_weaker is_plain (is_value_byte double_quote) plain_is_value bs h

-- no reference is in them
pub plain_references : (bs : List ℕ) → list_all is_plain bs ≡ true → HasGoodReferences bs
plain_references bs h = λ place bad. none_fails is_plain bad.prefix bad.suffix 38 refl (subst (λ (xs : List ℕ). list_all is_plain xs ≡ true) bad.whole h)

-- they are ASCII
pub plain_ascii : (bs : List ℕ) → list_all is_plain bs ≡ true → list_all is_ascii bs ≡ true
plain_ascii bs h = all_weaker is_plain is_ascii plain_is_ascii bs h

-- ---- numbers

-- 48 and a number below 10 is a digit
digit_passes : (n : ℕ) → n < 10 → is_digit (48 + n) ≡ true
digit_passes n h = grind (arith, nat_tests)

-- a number is written in digits
pub decimal_digits : (n : ℕ) → n < 2 ^ 64 → list_all is_digit (decimal n) ≡ true
decimal_digits n small = decimal_by_steps (λ m ds. list_all is_digit ds ≡ true)
    (λ m h. and_from (is_digit (48 + m)) true (digit_passes m h) refl)
    (λ m ds h k. all_append is_digit ds ((48 + m % 10) ∷ []) k (and_from (is_digit (48 + m % 10)) true (digit_passes (m % 10) (omega arith)) refl))
    n small

-- a digit is plain
digit_is_plain : (b : ℕ) → is_digit b ≡ true → is_plain b ≡ true
digit_is_plain b h = grind (arith, nat_tests)

-- the digits of a number are plain
pub decimal_plain : (n : ℕ) → n < 2 ^ 64 → list_all is_plain (decimal n) ≡ true
decimal_plain n small = all_weaker is_digit is_plain digit_is_plain (decimal n) (decimal_digits n small)

-- the text of a relation is plain
pub relation_plain : (r : Rel) → list_all is_plain (rel_text r) ≡ true
relation_plain r = search rules

-- the name of an event is plain
pub event_plain : (i : ℕ) → i < 2 ^ 64 → list_all is_plain (event_name i) ≡ true
event_plain i small = all_append is_plain (codes "e") (decimal i) refl (decimal_plain i small)

-- and that of its instance
pub instance_plain : (i : ℕ) → i < 2 ^ 64 → list_all is_plain (instance_name i) ≡ true
instance_plain i small = all_append is_plain (codes "ei") (decimal i) refl (decimal_plain i small)
