-- Numbers that can stand in a text, and the lines that say them.
use Rattle.std.specs.Prelude.{ℕ, ◌^◌, ◌<◌, List, ◌++◌, codes, decimal}
use Rattle.net_core.specs.Rels.{rel_text}
use Rattle.net_core.specs.declared.rels.Rel.{Rel}

-- a number that can stand in a text
abbrev pub IsNumber : ℕ → Type 0
IsNumber n = n < 2 ^ 32

abbrev pub IsPair : ℕ × ℕ → Type 0
IsPair pair = IsNumber pair.0 × IsNumber pair.1

-- a keyword that ends in a space, and a number
abbrev pub one_number : List ℕ → ℕ → List ℕ
one_number keyword n = keyword ++ decimal n ++ codes "\n"

-- a keyword that ends in a space, and two numbers
abbrev pub two_numbers : List ℕ → ℕ → ℕ → List ℕ
two_numbers keyword m n = keyword ++ decimal m ++ codes " " ++ decimal n ++ codes "\n"

-- a keyword that ends in a space, and a relation between two intervals
abbrev pub relation_line : List ℕ → ℕ → Rel → ℕ → List ℕ
relation_line keyword a r b = keyword ++ decimal a ++ codes " " ++ rel_text r ++ codes " " ++ decimal b ++ codes "\n"
