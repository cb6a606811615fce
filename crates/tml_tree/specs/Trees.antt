-- Paths, the tree of a document and the first fault.
use Rattle.std.specs.Prelude.{◌≡◌, ℕ, Bool, true, List, [], ◌∷◌, ◌++◌}
use Rattle.std.specs.List.{filter}
use Rattle.faults.specs.First.{FirstBrokenRule, NoneBreaks}
use Rattle.faults.specs.Kinds.{number_of}
use Rattle.faults.specs.declared.kind.FaultKind.{FaultKind}
use Rattle.tml_span.specs.Units.{Kind, start_tag, end_tag, PlainUnit}
use Rattle.tml_tree.specs.Plain.{PlainNode}
use Rattle.tml_tree.specs.Nesting.{LeavesOpen, Nests, is_content, is_element}
use Rattle.tml_tree.specs.Rules.{history_of, is_at_fault}

-- the units before this one nest, and given these it is at fault in this way
abbrev pub BreaksUnitRule : FaultKind → List PlainUnit → PlainUnit → Type 0
BreaksUnitRule kind before u = (names : List (List ℕ)) × (seen : Bool) × Nests before names seen × (is_at_fault kind (history_of before names seen) u.kind ≡ true)

-- the units nest, and none breaks a rule
abbrev pub Path : List PlainUnit → List (List ℕ) → Bool → Type 0
Path us names seen = Nests us names seen × NoneBreaks BreaksUnitRule us

abbrev pub HasPath : List PlainUnit → Type 0
HasPath us = (names : List (List ℕ)) × (seen : Bool) × Path us names seen

-- the units have a path on which the root was seen whole, and it is the element among the items
abbrev pub Document : PlainNode → List PlainUnit → Type 0
Document root us = Path us [] true × ((nodes : List PlainNode) × LeavesOpen (filter is_content us) [] nodes × (filter is_element nodes ≡ root ∷ []))

abbrev pub start_of : PlainUnit → ℕ
start_of u = u.start

-- at a place begins the first unit that breaks a rule
abbrev pub UnitFaultAt : List PlainUnit → ℕ → FaultKind → Type 0
UnitFaultAt us place kind = FirstBrokenRule BreaksUnitRule number_of start_of us place kind

-- the units have a path, but none on which the root was seen whole
abbrev pub Unclosed : List PlainUnit → Type 0
Unclosed us = HasPath us × (Path us [] true → ⊥)

-- what the last unit does to the open names: a start tag adds one, an end tag takes it away
abbrev pub Differs : Kind → List (List ℕ) → List (List ℕ) → Type 0
Differs (start_tag name attrs) before names = names ≡ name ∷ before
Differs (end_tag name) before names = before ≡ name ∷ names
Differs kind before names = names ≡ before

-- units that end in a unit have a path only where those without it have one, and the unit says how the two differ
abbrev pub LastUnit : Type 0
LastUnit = (us : List PlainUnit) (u : PlainUnit) (names : List (List ℕ)) (seen : Bool) → Path (us ++ u ∷ []) names seen → (before : List (List ℕ)) × (was : Bool) × Path us before was × Differs u.kind before names

-- units have one path
abbrev pub OnePath : Type 0
OnePath = (us : List PlainUnit) (names others : List (List ℕ)) (seen was : Bool) → Path us names seen → Path us others was → (names ≡ others) × (seen ≡ was)

-- the units before one at fault have a path, and with it they have none
abbrev pub PathEnds : Type 0
PathEnds = (us : List PlainUnit) (place : ℕ) (kind : FaultKind) (f : UnitFaultAt us place kind) → HasPath f.before × (HasPath (f.before ++ f.element ∷ []) → ⊥)

-- units make one tree
abbrev pub OneTree : Type 0
OneTree = (us : List PlainUnit) (root other : PlainNode) → Document root us → Document other us → root ≡ other

-- a tree, a fault and a root that is not closed exclude each other, and of faults there is one
pub record OneTreeAnswer (us : List PlainUnit) : Type 0 where
  pub tree_or_fault : (root : PlainNode) (place : ℕ) (kind : FaultKind) → Document root us → UnitFaultAt us place kind → ⊥
  pub tree_or_unclosed : (root : PlainNode) → Document root us → Unclosed us → ⊥
  pub fault_or_unclosed : (place : ℕ) (kind : FaultKind) → UnitFaultAt us place kind → Unclosed us → ⊥
  pub one_fault : (place other : ℕ) (kind same : FaultKind) → UnitFaultAt us place kind → UnitFaultAt us other same → (place ≡ other) × (kind ≡ same)

abbrev pub OneTreeAnswers : Type 0
OneTreeAnswers = (us : List PlainUnit) → OneTreeAnswer us
