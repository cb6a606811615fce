-- Where a reader is left whose units were pulled.
use Rattle.std.specs.Prelude.{◌≡◌, ℕ, List, [], ◌∷◌, ◌++◌, length}
use Rattle.tml_span.specs.Reader.{Reading, Divides, IsReading}
use Rattle.tml_span.specs.Units.{PlainUnit}
use Rattle.tml_tree.specs.declared.whole.TreeFault.{TreeFault}
use Rattle.tml_tree.specs.declared.whole.TreeFault.TheVariants as tree

-- at the end of the source
abbrev pub IsAtEnd : List ℕ → Reading → Type 0
IsAtEnd source r = (r.source ≡ source) × (r.place ≡ length source)

-- at the end of the unit of the source that begins at a place
abbrev pub IsPastUnit : List ℕ → ℕ → Reading → Type 0
IsPastUnit source place r = (r.source ≡ source) × (before : List PlainUnit) × (u : PlainUnit) × (left : List PlainUnit) × Divides r (before ++ u ∷ []) left × (u.start ≡ place)

-- at 0 or at the end of a unit of the source
abbrev pub IsInside : List ℕ → Reading → Type 0
IsInside source r = (r.source ≡ source) × IsReading r

-- After a fault at the end of the unit at fault; where the root is not closed at the end of the source.
abbrev pub LeavesReading : List ℕ → Reading → TreeFault → Type 0
LeavesReading source r (tree.UnknownTag place) = IsPastUnit source place r
LeavesReading source r (tree.Unbalanced place) = IsPastUnit source place r
LeavesReading source r (tree.Unclosed place) = IsAtEnd source r
LeavesReading source r (tree.Misplaced place) = IsPastUnit source place r
LeavesReading source r (tree.TooDeep place) = IsPastUnit source place r
LeavesReading source r tree.Memory = IsInside source r
