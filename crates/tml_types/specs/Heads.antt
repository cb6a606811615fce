-- Serves the code: names with their first bytes as a number.
use Rattle.std.specs.Prelude.{◌+◌, ◌*◌, ◌%◌, ◌^◌, ℕ, Bool, ◌&&◌, ◌==◌, List, [], ◌∷◌, take}
use Rattle.std.specs.Cmp.Lexicographic.{slice_cmp}
use Rattle.std.specs.Ordering.{nat_cmp, ordering_then}
use Rattle.std.specs.Str.{bytes_eq}
use Rattle.std.specs.declared.cmp.Ordering.{Ordering}
use Rattle.tml_span.specs.declared.unit.Attr.{Attr}
use Rattle.tml_types.specs.declared.repeats.HeadedName.{HeadedName}

-- the number that bytes make after this number, to the base 256, up to multiples of 2^64
unfoldable pub number_from : ℕ → List ℕ → ℕ
number_from n [] = n
number_from n (b ∷ bytes) = number_from ((n * 256 % 2 ^ 64 + b) % 2 ^ 64) bytes

-- the first eight bytes of a name, as a number
abbrev pub head_of : List ℕ → ℕ
head_of name = number_from 0 (take 8 name)

-- the first eight bytes of the name of an attribute, as a number
abbrev pub name_head : Attr → ℕ
name_head attr = head_of attr.name.now

-- the name of an attribute
abbrev pub headed_name : Attr → HeadedName
headed_name attr = record { head = head_of attr.name.now; name = attr.name }

abbrev pub are_same : HeadedName → HeadedName → Bool
are_same a b = a.head == b.head && bytes_eq a.name.now b.name.now

-- the order of names by their first bytes, and then by all
abbrev pub by_heads : HeadedName → HeadedName → Ordering
by_heads a b = ordering_then (nat_cmp a.head b.head) (slice_cmp nat_cmp a.name.now b.name.now)
