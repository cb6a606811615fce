-- Values that quoting leaves as they are: those whose bytes are all that of `-` or later ones, so none is `"` or `&`.
use Rattle.std.proofs.Common.{◌≡◌, ℕ, Bool, true, false, cond, ◌==◌, nat_le, List, [], ◌∷◌, ◌++◌, refl, sym, ap, ◌∙◌, arith, Some, None}
use Rattle.std.specs.Prelude.{codes}
use Rattle.std.specs.List.{list_all}
use Rattle.std.specs.Option.{is_some}
use Rattle.std.proofs.lemmas.Bool.{and_from, and_parts}
use Rattle.std.proofs.lemmas.Bool.Decides.{nat_tests}
use Rattle.named.proofs.Lists.{all_weaker, all_append}
use Rattle.named.specs.Texts.{named_of}
use Rattle.named.proofs.Tables.{found_has}
use Rattle.tml_span.specs.Written.{double_quote}
use Rattle.tml_types.specs.Values.{is_id_byte, is_named}
use Rattle.tml_canon.specs.Canonical.{quoted}

-- the byte of `-` or a later one
abbrev pub is_from_dash : ℕ → Bool
is_from_dash b = nat_le 45 b

-- all bytes of a text are such
abbrev pub are_from_dash : List ℕ → Bool
are_from_dash text = list_all is_from_dash text

-- two texts of such bytes make one
pub both_from_dash : (xs ys : List ℕ) → are_from_dash xs ≡ true → are_from_dash ys ≡ true → are_from_dash (xs ++ ys) ≡ true
both_from_dash xs ys h k = all_append is_from_dash xs ys h k

-- such a byte is no `"`
byte_unchanged : (b : ℕ) → is_from_dash b ≡ true → (b == double_quote) ≡ false
byte_unchanged b h = grind (arith, nat_tests)

-- a text of such bytes is left as it is
pub unchanged : (text : List ℕ) → are_from_dash text ≡ true → quoted text ≡ text
unchanged [] h = refl
unchanged (b ∷ text) h =
    let parts = and_parts (is_from_dash b) (are_from_dash text) h in
    ap (λ (e : Bool). cond e (codes "&quot;") (b ∷ []) ++ quoted text) (byte_unchanged b parts.0) ∙ ap (λ (t : List ℕ). b ∷ t) (unchanged text parts.1)

-- a text has such bytes where it has them when it is quoted, since `&` is none
pub from_dash_before : (text : List ℕ) → are_from_dash (quoted text) ≡ true → are_from_dash text ≡ true
from_dash_before [] h = refl
from_dash_before (b ∷ text) h = elim (b == double_quote) as (λ e. are_from_dash (cond e (codes "&quot;") (b ∷ []) ++ quoted text) ≡ true → are_from_dash (b ∷ text) ≡ true) [
  | true ↦ λ k. absurd cc
  | false ↦ λ k. let parts = and_parts (is_from_dash b) (are_from_dash (quoted text)) k in and_from (is_from_dash b) (are_from_dash text) parts.0 (from_dash_before text parts.1)
] h

-- so it is left as it is then
pub unchanged_before : (text : List ℕ) → are_from_dash (quoted text) ≡ true → quoted text ≡ text
unchanged_before text h = unchanged text (from_dash_before text h)

-- each byte of an identifier is such
identifier_byte : (b : ℕ) → is_id_byte b ≡ true → is_from_dash b ≡ true
identifier_byte b h = grind (arith, nat_tests)

-- so an identifier is of such bytes
pub identifier_from_dash : (text : List ℕ) → list_all is_id_byte text ≡ true → are_from_dash text ≡ true
identifier_from_dash text h = all_weaker is_id_byte is_from_dash identifier_byte text h

-- a text of a table is of such bytes where all of its texts are
pub named_from_dash : {T : Type 0} (text_of : T → List ℕ) (all : List T) → ((v : T) → are_from_dash (text_of v) ≡ true) → (text : List ℕ) → is_named text_of all text ≡ true → are_from_dash text ≡ true
named_from_dash text_of all each text h = elim (named_of text_of all text) as (λ o. named_of text_of all text ≡ o → is_some o ≡ true → are_from_dash text ≡ true) [
  | None ↦ λ e k. absurd cc
  | Some v ↦ λ e k. ap are_from_dash (sym (found_has text_of all text v e)) ∙ each v
] refl h
