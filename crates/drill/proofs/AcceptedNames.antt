-- The names of events and instances: they are identifiers, and no two of them are the same.
use Rattle.std.proofs.Common.{◌≡◌, ℕ, ◌<◌, ◌≤◌, true, false, List, [], ◌∷◌, ◌++◌, length, refl, sym, subst, arith, length-append}
use Rattle.std.specs.Prelude.{codes, decimal}
use Rattle.std.specs.List.{list_all}
use Rattle.std.specs.Str.{bytes_eq}
use Rattle.std.proofs.lemmas.Bool.{and_from, false_from_ne_true}
use Rattle.std.proofs.lemmas.Bool.Decides.{nat_tests}
use Rattle.std.proofs.lemmas.Fmt.{decimal_injective}
use Rattle.std.proofs.lemmas.Slice.Eq.{bytes_eq-Decides}
use Rattle.named.proofs.Lists.{all_append, all_weaker}
use Rattle.net_core.specs.Limits.{max_intervals}
use Rattle.tml_span.specs.Bytes.{is_digit}
use Rattle.tml_types.specs.Values.{is_id_byte, is_id_len, is_identifier}
use Rattle.drill.specs.Texts.{event_name, instance_name}
use Rattle.drill.proofs.AcceptedBytes.{decimal_digits, none_fails}
use Rattle.drill.proofs.Short.{number_short}

-- a digit may stand in an identifier
digit_is_id : (b : ℕ) → is_digit b ≡ true → is_id_byte b ≡ true
digit_is_id b h = grind (arith, nat_tests)

-- 1 to 64 bytes may be an identifier
fits : (n : ℕ) → 1 ≤ n → n ≤ 64 → is_id_len n ≡ true
fits n low high = grind (arith, nat_tests)

-- a short text and the digits of a small number are an identifier
id_of_number : (text : List ℕ) (i : ℕ) → 1 ≤ length text → length text ≤ 10 → list_all is_id_byte text ≡ true → i < max_intervals → is_identifier (text ++ decimal i) ≡ true
id_of_number text i low high t small =
    let digits = all_weaker is_digit is_id_byte digit_is_id (decimal i) (decimal_digits i (omega arith)) in
    let few = number_short i small in
    and_from (is_id_len (length (text ++ decimal i))) (list_all is_id_byte (text ++ decimal i)) (fits (length (text ++ decimal i)) (omega (arith, length-append text (decimal i))) (omega (arith, length-append text (decimal i), few))) (all_append is_id_byte text (decimal i) t digits)

-- the name of an event is an identifier
pub event_identifier : (i : ℕ) → i < max_intervals → is_identifier (event_name i) ≡ true
event_identifier i small = id_of_number (codes "e") i (omega arith) (omega arith) refl small

-- and so is that of an instance
pub instance_identifier : (i : ℕ) → i < max_intervals → is_identifier (instance_name i) ≡ true
instance_identifier i small = id_of_number (codes "ei") i (omega arith) (omega arith) refl small

-- ---- different names

-- texts that are not one fail the test of equal texts
unequal : (xs ys : List ℕ) → (xs ≡ ys → ⊥) → bytes_eq xs ys ≡ false
unequal xs ys h = false_from_ne_true (bytes_eq xs ys) (λ e. h ((bytes_eq-Decides xs ys).0 e))

-- two events have different names
pub events_differ : (i j : ℕ) → i < max_intervals → j < max_intervals → (i ≡ j → ⊥) → bytes_eq (event_name i) (event_name j) ≡ false
events_differ i j a b d = unequal (event_name i) (event_name j) (λ e. d (decimal_injective i j (omega arith) (omega arith) cc))

-- two instances have different names
pub instances_differ : (i j : ℕ) → i < max_intervals → j < max_intervals → (i ≡ j → ⊥) → bytes_eq (instance_name i) (instance_name j) ≡ false
instances_differ i j a b d = unequal (instance_name i) (instance_name j) (λ e. d (decimal_injective i j (omega arith) (omega arith) cc))

-- an `i` is no digit
no_digits : (i j : ℕ) → i < max_intervals → event_name i ≡ instance_name j → ⊥
no_digits i j small e =
    let same : decimal i ≡ 105 ∷ decimal j = cc in
    none_fails is_digit [] (decimal j) 105 refl (subst (λ (xs : List ℕ). list_all is_digit xs ≡ true) same (decimal_digits i (omega arith)))

-- an event and an instance have different names
pub event_is_no_instance : (i j : ℕ) → i < max_intervals → bytes_eq (event_name i) (instance_name j) ≡ false
event_is_no_instance i j small = unequal (event_name i) (instance_name j) (no_digits i j small)

-- and the other way round
pub instance_is_no_event : (i j : ℕ) → j < max_intervals → bytes_eq (instance_name i) (event_name j) ≡ false
instance_is_no_event i j small = unequal (instance_name i) (event_name j) (λ e. no_digits j i small (sym e))
