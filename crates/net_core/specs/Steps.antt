-- Steps from point to point, and the orders that they go by.
use Rattle.std.specs.Prelude.{◌≡◌, ℕ, ◌+◌, ◌*◌, nat_lt, ℤ, int_le, int_lt, ⊤, Bool, false, List, Option, None, Some, option_and_then, if◌then◌else◌}
use Rattle.std.specs.List.{list_any, slice_get}
use Rattle.net_core.specs.declared.atom.Atom.{Atom}
use Rattle.net_core.specs.declared.net.NetLink.{NetLink}
use Rattle.net_core.specs.declared.step.Step.{Step}
use Rattle.net_core.specs.declared.step.Step.TheVariants.{Link, Span, Calendar}
use Rattle.net_core.specs.Atoms.{atoms_of, before}
use Rattle.net_core.specs.Nets.{PlainNet, intervals, lower, upper}

-- the order of a point with an upper number and one with a lower number, where the first number is not above the other
abbrev pub calendar_order : Option ℤ → Option ℤ → ℕ → ℕ → Option Atom
calendar_order (Some u) (Some l) p q = if int_le u l then Some (record { from = p; to = q; strict = int_lt u l }) else None
calendar_order (Some u) None p q = None
calendar_order None l p q = None

-- The order that a step goes by, if any: one of those that a link is; that an interval starts before it ends; or the order of two points in the calendar.
abbrev pub atom_of : PlainNet → Step → Option Atom
atom_of net (Link link atom) = option_and_then (λ (l : NetLink). slice_get (atoms_of l.a l.rel l.b) atom) (slice_get net.links link)
atom_of net (Span i) = if nat_lt i (intervals net) then Some (before (2 * i) (2 * i + 1)) else None
atom_of net (Calendar p q) = calendar_order (upper net p) (lower net q) p q

-- whether there is such an order, and it is strict
abbrev pub is_strict_order : Option Atom → Bool
is_strict_order (Some atom) = atom.strict
is_strict_order None = false

-- whether some of the steps goes by a strict order
abbrev pub has_strict : PlainNet → List Step → Bool
has_strict net steps = list_any (λ step. is_strict_order (atom_of net step)) steps

-- the link that a step goes over, if any
abbrev pub link_of : Step → Option ℕ
link_of (Link link atom) = Some link
link_of step = None

-- the step uses no link but those of a set
abbrev pub Uses : (ℕ → Type 0) → Step → Type 0
Uses Chosen (Link link atom) = Chosen link
Uses Chosen step = ⊤

-- the step goes by this order, and uses no link but those of a set
abbrev pub GoesBy : PlainNet → (ℕ → Type 0) → Step → Atom → Type 0
GoesBy net Chosen step atom = (atom_of net step ≡ Some atom) × Uses Chosen step
