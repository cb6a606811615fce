-- The orders of two intervals that a table gives, as bits.
use Rattle.std.specs.Prelude.{◌≡◌, ◌↔◌, ℕ, ◌+◌, ◌*◌, ◌^◌, List, [], ◌∷◌, bit_or}
use Rattle.std.specs.Int.{bit_at}
use Rattle.net_core.specs.Atoms.{atom_between, points_of}
use Rattle.net_core.specs.declared.atom.End.{End}
use Rattle.net_core.specs.declared.atom.End.TheVariants.{Start, Finish}
use Rattle.net_core.specs.declared.atom.PairOrder.{PairOrder}
use Rattle.net_core.specs.declared.atom.PairOrder.TheVariants.{ABefore, ANoLater, BBefore, BNoLater}
use Rattle.order_closure.specs.Tables.{GivesAtom, Table}

-- the number of a point of an interval
abbrev pub end_number : End → ℕ
end_number Start = 0
end_number Finish = 1

-- the bit of an order between two intervals: those from a to b first, and those of each point one after another
abbrev pub bit_number : PairOrder → ℕ
bit_number (ANoLater p q) = 4 * end_number p + end_number q
bit_number (ABefore p q) = 4 * end_number p + 2 + end_number q
bit_number (BNoLater p q) = 8 + (4 * end_number p + end_number q)
bit_number (BBefore p q) = 8 + (4 * end_number p + 2 + end_number q)

-- the bits of some orders
abbrev pub mask_of : List PairOrder → ℕ
mask_of [] = 0
mask_of (order ∷ orders) = bit_or (2 ^ bit_number order) (mask_of orders)

-- the bits of the orders that a table gives between intervals a and b
abbrev pub AreGiven : Table → ℕ → ℕ → ℕ → Type 0
AreGiven table a b set = (order : PairOrder) → (bit_at set (bit_number order) ≡ 1) ↔ GivesAtom table (atom_between (points_of a) (points_of b) order)
