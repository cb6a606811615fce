-- Serves the code: the words of one line, read from left to right.
use Rattle.std.specs.Prelude.{ℕ, ◌+◌, ◌*◌, ◌^◌, ◌&&◌, not, nat_lt, nat_eq, Bool, List, [], ◌∷◌, length, take, drop, ◌==◌, Option, Some, None, option_and_then, if◌then◌else◌, decimal}
use Rattle.std.specs.List.{prefix_len, starts_with}
use Rattle.std.specs.Str.{bytes_eq}
use Rattle.std.specs.Str.Parse.{digits_value}
use Rattle.std.specs.Char.{digit_value}
use Rattle.named.specs.Texts.{named_of}
use Rattle.net_core.specs.Rels.{all_rels, rel_text}
use Rattle.net_core.specs.declared.rels.Rel.{Rel}

infixl 10 ◌>>=◌
abbrev pub ◌>>=◌ : {A B : Type 0} → Option A → (A → Option B) → Option B
o >>= f = option_and_then f o

abbrev pub is_not : ℕ → ℕ → Bool
is_not stop b = not (b == stop)

-- the number below 2 ^ 64 that a word writes: it is the word that the number prints
unfoldable pub number : List ℕ → Option ℕ
number word = if nat_lt (digits_value 10 word) (2 ^ 64) && bytes_eq (decimal (digits_value 10 word)) word then Some (digits_value 10 word) else None

-- the number below 2 ^ 64 that one digit more writes after a number
unfoldable pub digit_after : ℕ → ℕ → Option ℕ
digit_after n b = if nat_lt (digit_value b) 10 && nat_lt (n * 10 + digit_value b) (2 ^ 64) then Some (n * 10 + digit_value b) else None

-- the number below 2 ^ 64 that digits write after a number, up to the byte that ends them, and what follows that byte
unfoldable pub digits_to : ℕ → ℕ → List ℕ → Option (ℕ × List ℕ)
digits_to stop n [] = None
digits_to stop n (b ∷ bytes) = if b == stop then Some (n, bytes) else (digit_after n b >>= λ m. digits_to stop m bytes)

-- what follows a keyword
unfoldable pub after : List ℕ → List ℕ → Option (List ℕ)
after keyword bytes = if starts_with nat_eq bytes keyword then Some (drop (length keyword) bytes) else None

-- what follows the first byte
abbrev pub after_one : List ℕ → Option (List ℕ)
after_one [] = None
after_one (b ∷ rest) = Some rest

-- what follows a byte
abbrev pub after_byte : ℕ → List ℕ → Option (List ℕ)
after_byte byte [] = None
after_byte byte (b ∷ rest) = if b == byte then Some rest else None

-- the number below 2 ^ 64 up to the byte that ends it, and what follows that byte
unfoldable pub long_to : ℕ → List ℕ → Option (ℕ × List ℕ)
long_to stop bytes = do
  n ← number (take (prefix_len (is_not stop) bytes) bytes)
  rest ← after_one (drop (prefix_len (is_not stop) bytes) bytes)
  Some (n, rest)

-- the number below 2 ^ 32 up to the byte that ends it, and what follows that byte
unfoldable pub number_to : ℕ → List ℕ → Option (ℕ × List ℕ)
number_to stop bytes = do
  n ← long_to stop bytes
  if nat_lt n.0 (2 ^ 32) then Some (n.0, n.1) else None

-- the word up to the byte that ends it, and what follows that byte
unfoldable pub word_to : ℕ → List ℕ → Option (List ℕ × List ℕ)
word_to stop bytes = do
  rest ← after_one (drop (prefix_len (is_not stop) bytes) bytes)
  Some (take (prefix_len (is_not stop) bytes) bytes, rest)

-- a value with nothing after it
abbrev pub alone : {A : Type 0} → A → List ℕ → Option A
alone a [] = Some a
alone a (b ∷ rest) = None

-- the number of a line of a keyword and one number
unfoldable pub one_of : List ℕ → List ℕ → Option ℕ
one_of keyword line = do
  rest ← after keyword line
  n ← number_to 10 rest
  alone n.0 n.1

-- the numbers of a line of a keyword and two numbers
unfoldable pub two_of : List ℕ → List ℕ → Option (ℕ × ℕ)
two_of keyword line = do
  rest ← after keyword line
  m ← number_to 32 rest
  n ← number_to 10 m.1
  alone (m.0, n.0) n.1

-- the numbers after a keyword, up to the LF that ends them, and what follows it
unfoldable pub two_to : List ℕ → List ℕ → Option ((ℕ × ℕ) × List ℕ)
two_to keyword bytes = do
  rest ← after keyword bytes
  m ← number_to 32 rest
  n ← number_to 10 m.1
  Some ((m.0, n.0), n.1)

-- the intervals and the relation of a line of a keyword and a relation between two intervals
unfoldable pub relation_of : List ℕ → List ℕ → Option (ℕ × Rel × ℕ)
relation_of keyword line = do
  rest ← after keyword line
  a ← number_to 32 rest
  word ← word_to 32 a.1
  r ← named_of rel_text all_rels word.0
  b ← number_to 10 word.1
  alone (a.0, r, b.0) b.1

-- a line that is this one
abbrev pub same_of : List ℕ → List ℕ → Option (Unit {0})
same_of text line = if bytes_eq line text then Some tt else None
