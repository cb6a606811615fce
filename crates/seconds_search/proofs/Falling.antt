-- How far a list of numbers that fall may go on.
use Rattle.std.proofs.Common.{◌+◌, ℕ, Option, Some, None}

abbrev pub numbers_left : Option ℕ → ℕ
numbers_left (Some k) = k + 1
numbers_left None = 0
