-- Kinds of bytes.
use Rattle.std.specs.Prelude.{ℕ, Bool, false, ◌&&◌, ◌||◌, not, ◌==◌, nat_le, List, [], ◌∷◌, codes}
use Rattle.std.specs.List.{list_all}

-- the first byte of a text
abbrev pub byte : List ℕ → ℕ
byte [] = 0
byte (b ∷ bytes) = b

-- one of these bytes
abbrev pub is_in : List ℕ → ℕ → Bool
is_in [] b = false
is_in (c ∷ []) b = b == c
is_in (c ∷ bytes) b = b == c || is_in bytes b

-- from the first of two bytes to the second
abbrev pub is_from_to : List ℕ → ℕ → Bool
is_from_to (low ∷ high ∷ []) b = nat_le low b && nat_le b high
is_from_to bytes b = false

-- space, tab, carriage return and line feed
abbrev pub is_white : ℕ → Bool
is_white b = is_in (codes " \t\r\n") b

-- a letter of ASCII, `_`, `:` or a byte of 128 and more
abbrev pub is_name_start : ℕ → Bool
is_name_start b = is_from_to (codes "AZ") b || is_from_to (codes "az") b || is_in (codes "_:") b || nat_le 128 b

-- these, digits, `-` and `.`
abbrev pub is_name_byte : ℕ → Bool
is_name_byte b = is_name_start b || is_from_to (codes "09") b || is_in (codes "-.") b

abbrev pub is_name : List ℕ → Bool
is_name [] = false
is_name (b ∷ bytes) = is_name_start b && list_all is_name_byte bytes

-- any byte but `<`
abbrev pub is_text_byte : ℕ → Bool
is_text_byte b = not (is_in (codes "<") b)

-- `"` or `'`
abbrev pub is_quote : ℕ → Bool
is_quote b = is_in (codes "\"'") b

-- any byte but the quote and `<`
abbrev pub is_value_byte : ℕ → ℕ → Bool
is_value_byte quote b = not (b == quote) && is_text_byte b

-- any byte but `[`, `<` and `>`
abbrev pub is_doctype_byte : ℕ → Bool
is_doctype_byte b = not (is_in (codes "[") b) && is_text_byte b && not (is_in (codes ">") b)

abbrev pub is_digit : ℕ → Bool
is_digit b = is_from_to (codes "09") b

-- a digit, or a letter from a to f of either case
abbrev pub is_hex_digit : ℕ → Bool
is_hex_digit b = is_digit b || is_from_to (codes "AF") b || is_from_to (codes "af") b
