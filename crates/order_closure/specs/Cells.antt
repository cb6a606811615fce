-- What is known of the order of two points.
use Rattle.std.specs.Prelude.{ℕ, ◌<◌, ◌≤◌, ⊤, Bool, true, false}
use Rattle.order_closure.specs.declared.cell.Cell.{Cell}
use Rattle.order_closure.specs.declared.cell.Cell.TheVariants.{Free, Weak, Strict}

-- what a cell says of the places of its two points
abbrev pub CellSays : Cell → ℕ → ℕ → Type 0
CellSays Free m n = ⊤
CellSays Weak m n = m ≤ n
CellSays Strict m n = m < n

-- Strict says more than Weak, and Weak more than Free
abbrev pub strength : Cell → ℕ
strength Free = 0
strength Weak = 1
strength Strict = 2

-- the order of an atom
abbrev pub order : Bool → Cell
order true = Strict
order false = Weak

-- what two cells say together
abbrev pub stronger : Cell → Cell → Cell
stronger Strict y = Strict
stronger Weak Strict = Strict
stronger Weak y = Weak
stronger Free y = y

-- what follows from two orders, one after the other: nothing without both, and strictly where one of them is strict
abbrev pub joined : Cell → Cell → Cell
joined Free y = Free
joined Weak y = y
joined Strict Free = Free
joined Strict y = Strict
