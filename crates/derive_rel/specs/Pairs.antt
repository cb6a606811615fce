-- Orders between two intervals as bits: those of a relation, and whether a table gives any.
use Rattle.std.specs.Prelude.{ℕ, ◌+◌, ◌*◌, ◌||◌, ◌==◌, Bool, true, false, bit_and}
use Rattle.net_core.specs.Atoms.{orders_of}
use Rattle.net_core.specs.declared.rels.Rel.{Rel}
use Rattle.order_closure.specs.Between.{mask_of}
use Rattle.order_closure.specs.declared.cell.Cell.{Cell}
use Rattle.order_closure.specs.declared.cell.Cell.TheVariants.{Free, Weak, Strict}
use Rattle.derive_rel.specs.declared.pairs.Mask.{Mask}
use Rattle.derive_rel.specs.declared.pairs.RelSet.{RelSet}

-- a relation, with the bits of its orders
abbrev pub mask_for : Rel → Mask
mask_for r = record { rel = r; bits = mask_of (orders_of r) }

-- whether a relation is in a set: its orders are among those that are given
abbrev pub has : RelSet → Rel → Bool
has set r = bit_and set.given (mask_of (orders_of r)) == mask_of (orders_of r)

-- whether a cell gives an order of its points
abbrev pub gives : Cell → Bool → Bool
gives Strict strict = true
gives Weak true = false
gives Weak false = true
gives Free strict = false

-- whether some cell from a point of the first interval to one of the second gives an order
abbrev pub says_some : (ℕ → ℕ → Cell) → ℕ → ℕ → Bool
says_some cell a b = gives (cell (2 * a) (2 * b)) false || gives (cell (2 * a) (2 * b + 1)) false || gives (cell (2 * a + 1) (2 * b)) false || gives (cell (2 * a + 1) (2 * b + 1)) false
