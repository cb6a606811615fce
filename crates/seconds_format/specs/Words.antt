-- Serves the code: the seconds of one line, read from left to right.
use Rattle.std.specs.Prelude.{ℕ, zero, suc, ◌^◌, nat_lt, ◌==◌, ℤ, pos, negsuc, List, [], ◌∷◌, Option, Some, None, if◌then◌else◌, codes}
use Rattle.line_texts.specs.Words.{◌>>=◌, after, alone, long_to}

-- a number as a second
unfoldable pub second_of : ℕ → Option ℤ
second_of n = if nat_lt n (2 ^ 63) then Some (pos n) else None

-- the second that is so far before second 0
unfoldable pub second_before : ℕ → Option ℤ
second_before zero = None
second_before (suc n) = if nat_lt n (2 ^ 63) then Some (negsuc n) else None

-- a second made of a number, and what follows it
abbrev pub made_by : (ℕ → Option ℤ) → Option (ℕ × List ℕ) → Option (ℤ × List ℕ)
made_by make read = do
  n ← read
  second ← make n.0
  Some (second, n.1)

-- the second up to the byte that ends it, and what follows that byte
unfoldable pub second_to : ℕ → List ℕ → Option (ℤ × List ℕ)
second_to stop [] = None
second_to stop (b ∷ bytes) = if b == 45 then made_by second_before (long_to stop bytes) else made_by second_of (long_to stop (b ∷ bytes))

-- the seconds of the line of an interval
unfoldable pub pair_of : List ℕ → Option (ℤ × ℤ)
pair_of line = do
  rest ← after (codes "at ") line
  start ← second_to 32 rest
  finish ← second_to 10 start.1
  alone (start.0, finish.0) finish.1
