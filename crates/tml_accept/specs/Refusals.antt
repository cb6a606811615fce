-- Why a document is not accepted.
use Rattle.std.specs.Prelude.{ℕ, List, ⊤, None, Some}
use Rattle.std.specs.declared.option.Option.{Option}
use Rattle.faults.specs.declared.kind.FaultKind.{FaultKind}
use Rattle.tml_accept.specs.Acceptance.{FirstFault}
use Rattle.tml_accept.specs.declared.refusal.Refusal.{Refusal}
use Rattle.tml_accept.specs.declared.refusal.Refusal.TheVariants.{Fault, Memory}

-- the refusal by the kind and the place of a fault; out of memory has none
abbrev pub refusal_of : Option (FaultKind × ℕ) → Refusal
refusal_of None = Memory
refusal_of (Some found) = Fault found.0 found.1

-- the document has this first fault, or memory ran out
abbrev pub IsRefusal : List ℕ → Refusal → Type 0
IsRefusal doc (Fault kind place) = FirstFault doc kind place
IsRefusal doc Memory = ⊤
