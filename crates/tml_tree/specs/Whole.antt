-- A source, its tree and its fault.
use Rattle.std.specs.Prelude.{◌≡◌, ◌⊎◌, ℕ, List, length, Option, Some, None, IfSome}
use Rattle.faults.specs.declared.kind.FaultKind.{FaultKind}
use Rattle.faults.specs.declared.kind.FaultKind.TheVariants as fault
use Rattle.tml_span.specs.Units.{PlainUnit}
use Rattle.tml_span.specs.Whole.{Cutting, IsWhole}
use Rattle.tml_span.specs.Faults.{CutFault}
use Rattle.tml_tree.specs.declared.whole.TreeFault.{TreeFault}
use Rattle.tml_tree.specs.declared.whole.TreeFault.TheVariants as tree
use Rattle.tml_tree.specs.Plain.{PlainNode}
use Rattle.tml_tree.specs.Trees.{Document, UnitFaultAt, Unclosed}

-- the tree of a source: that of all its units
abbrev pub IsTreeOf : List ℕ → PlainNode → Type 0
IsTreeOf source root = (units : List PlainUnit) × IsWhole (record { source = source; units = units }) × Document root units

-- a source has one tree
abbrev pub OneTreeOfSource : Type 0
OneTreeOfSource = (source : List ℕ) (root other : PlainNode) → IsTreeOf source root → IsTreeOf source other → root ≡ other

-- the kind of a fault and its place; none where it is that memory ran out
abbrev pub kind_and_place : TreeFault → Option (FaultKind × ℕ)
kind_and_place (tree.UnknownTag place) = Some (fault.UnknownTag, place)
kind_and_place (tree.Unbalanced place) = Some (fault.Unbalanced, place)
kind_and_place (tree.Unclosed place) = Some (fault.Unclosed, place)
kind_and_place (tree.Misplaced place) = Some (fault.Misplaced, place)
kind_and_place (tree.TooDeep place) = Some (fault.TooDeep, place)
kind_and_place tree.Memory = None

-- a fault of units whose source has this length: the first unit that breaks a rule, or at the end a root that is not closed
abbrev pub FaultOf : ℕ → List PlainUnit → ℕ → FaultKind → Type 0
FaultOf end us place kind = UnitFaultAt us place kind ⊎ ((kind ≡ fault.Unclosed) × (place ≡ end) × Unclosed us)

-- what a fault says of units whose source has this length
abbrev pub UnitsFault : ℕ → List PlainUnit → TreeFault → Type 0
UnitsFault end us fault = IfSome (kind_and_place fault) (λ f. FaultOf end us f.1 f.0)

-- the same of a source with its units
abbrev pub HasUnitFault : Cutting → TreeFault → Type 0
HasUnitFault c fault = UnitsFault (length c.source) c.units fault

-- the fault of the units of a source that has no fault of the cut
abbrev pub UnitsFaultAt : List ℕ → ℕ → FaultKind → Type 0
UnitsFaultAt source place kind = (units : List PlainUnit) × IsWhole (record { source = source; units = units }) × FaultOf (length source) units place kind

-- why a source has no tree: the fault of its cut, or where it has none that of its units
abbrev pub SourceFaultAt : List ℕ → ℕ → FaultKind → Type 0
SourceFaultAt source place kind = CutFault source place kind ⊎ UnitsFaultAt source place kind

-- what a fault says of a source that has no fault of the cut
abbrev pub HasTreeFault : List ℕ → TreeFault → Type 0
HasTreeFault source fault = IfSome (kind_and_place fault) (λ f. UnitsFaultAt source f.1 f.0)

-- a source has a tree or a fault, and of faults there is one
pub record OneSourceAnswer (source : List ℕ) : Type 0 where
  pub tree_or_fault : (root : PlainNode) (place : ℕ) (kind : FaultKind) → IsTreeOf source root → SourceFaultAt source place kind → ⊥
  pub one_fault : (place other : ℕ) (kind same : FaultKind) → SourceFaultAt source place kind → SourceFaultAt source other same → (place ≡ other) × (kind ≡ same)

abbrev pub OneSourceAnswers : Type 0
OneSourceAnswers = (source : List ℕ) → OneSourceAnswer source

-- units whose source has this length make a tree, or have a fault
abbrev pub HaveTreeOrFault : ℕ → List PlainUnit → Type 0
HaveTreeOrFault end us = ((root : PlainNode) × Document root us) ⊎ ((place : ℕ) × (kind : FaultKind) × FaultOf end us place kind)

-- a source has a tree, or a fault
abbrev pub TreeOrFault : List ℕ → Type 0
TreeOrFault source = ((root : PlainNode) × IsTreeOf source root) ⊎ ((place : ℕ) × (kind : FaultKind) × SourceFaultAt source place kind)
