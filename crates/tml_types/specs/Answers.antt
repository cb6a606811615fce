-- Tags have one answer.
use Rattle.std.specs.Prelude.{◌≡◌, ◌⊎◌, ℕ, List}
use Rattle.faults.specs.declared.kind.FaultKind.{FaultKind}
use Rattle.tml_tree.specs.Walking.{PlainTag}
use Rattle.tml_types.specs.Content.{PlainTyped}
use Rattle.tml_types.specs.Whole.{TagFaultAt, Types}

-- typed tags and a fault exclude each other, and of both there is one
pub record OneTypedAnswer (tags : List PlainTag) : Type 0 where
  pub typed_or_fault : (typed : List PlainTyped) (place : ℕ) (kind : FaultKind) → Types tags typed → TagFaultAt tags place kind → ⊥
  pub one_fault : (place other : ℕ) (kind another : FaultKind) → TagFaultAt tags place kind → TagFaultAt tags other another → (place ≡ other) × (kind ≡ another)
  pub one_typed : (typed others : List PlainTyped) → Types tags typed → Types tags others → typed ≡ others

abbrev pub OneTypedAnswers : Type 0
OneTypedAnswers = (tags : List PlainTag) → OneTypedAnswer tags

-- tags have typed tags, or a fault
abbrev pub TypedOrFault : List PlainTag → Type 0
TypedOrFault tags = ((typed : List PlainTyped) × Types tags typed) ⊎ ((place : ℕ) × (kind : FaultKind) × TagFaultAt tags place kind)
