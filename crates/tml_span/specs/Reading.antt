-- Serves the code: reading one unit from left to right.
use Rattle.std.specs.Prelude.{◌≡◌, ℕ, ◌+◌, ◌-◌, Bool, ◌==◌, List, [], ◌∷◌, length, take, drop, Option, Some, None, option_and_then, codes, if◌then◌else◌}
use Rattle.std.specs.List.{prefix_len}
use Rattle.tml_span.specs.Bytes.{byte, is_white, is_name_start, is_name_byte, is_quote, is_value_byte}
use Rattle.tml_span.specs.Units.{Attribute}

infixl 10 ◌>>=◌
abbrev pub ◌>>=◌ : {A B : Type 0} → Option A → (A → Option B) → Option B
o >>= f = option_and_then f o

-- the longest prefix that passes, and what follows it
abbrev pub run_at : (ℕ → Bool) → List ℕ → List ℕ × List ℕ
run_at p bytes = (take (prefix_len p bytes) bytes, drop (prefix_len p bytes) bytes)

abbrev pub after_white : List ℕ → List ℕ
after_white bytes = drop (prefix_len is_white bytes) bytes

-- what follows one byte
abbrev pub after_byte : ℕ → List ℕ → Option (List ℕ)
after_byte b [] = None
after_byte b (c ∷ rest) = if c == b then Some rest else None

unfoldable pub name_at : List ℕ → Option (List ℕ × List ℕ)
name_at [] = None
name_at (b ∷ bs) = if is_name_start b then Some (run_at is_name_byte (b ∷ bs)) else None

-- a quote
unfoldable pub quote_at : List ℕ → Option (ℕ × List ℕ)
quote_at [] = None
quote_at (b ∷ bs) = if is_quote b then Some (b, bs) else None

-- a value between two quotes
unfoldable pub value_at : List ℕ → Option (ℕ × List ℕ × List ℕ)
value_at bytes = do
  quote ← quote_at bytes
  rest ← after_byte quote.0 (run_at (is_value_byte quote.0) quote.1).1
  Some (quote.0, (run_at (is_value_byte quote.0) quote.1).0, rest)

-- an attribute after white space, of which there is some
unfoldable pub attribute_at : ℕ → List ℕ → Option (Attribute × List ℕ)
attribute_at place bytes = if prefix_len is_white bytes == 0 then None else do
  name ← name_at (after_white bytes)
  right ← after_byte (byte (codes "=")) (after_white name.1)
  value ← value_at (after_white right)
  Some (record { start = place + prefix_len is_white bytes; end = place + (length bytes - length value.2); name = name.0; value = value.1; quote = value.0 }, value.2)

-- as many attributes as there are, and what follows them
abbrev pub ReadsAttributes : ℕ → List ℕ → List Attribute → List ℕ → Type 0
ReadsAttributes place bytes [] rest = (bytes ≡ rest) × (attribute_at place bytes ≡ None)
ReadsAttributes place bytes (a ∷ attrs) rest = (mid : List ℕ) × (attribute_at place bytes ≡ Some (a, mid)) × ReadsAttributes (place + (length bytes - length mid)) mid attrs rest
