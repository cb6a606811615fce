-- Serves the code: what the calendar says of the points of a net, as events in order.
use Rattle.std.specs.Prelude.{◌≡◌, ℕ, ◌+◌, ◌<◌, ◌≤◌, ℤ, pos, List, [], ◌∷◌, length, Option, Some, None, slice_index_or}
use Rattle.std.specs.List.{All, Contains}
use Rattle.std.specs.List.Sorted.{IsSortedByKey}
use Rattle.std.specs.Ordering.{int_cmp, nat_cmp, ordering_then}
use Rattle.std.specs.declared.cmp.Ordering.{Ordering}
use Rattle.net_core.specs.Nets.{PlainNet, lower, points, upper}
use Rattle.net_core.specs.Relations.{Timeline}
use Rattle.evidence_check.specs.declared.calendar.Event.{Event}
use Rattle.evidence_check.specs.declared.calendar.Kind.{Kind}
use Rattle.evidence_check.specs.declared.calendar.Kind.TheVariants.{Upper, Lower, Past}

-- the number of a point that an event of a kind has
abbrev pub calendar_number : Kind → PlainNet → ℕ → Option ℤ
calendar_number Upper net p = upper net p
calendar_number Lower net p = lower net p
calendar_number Past net p = upper net p

-- the event of a point at a number, where there is one
abbrev pub events_of : Kind → ℕ → Option ℤ → List Event
events_of kind p (Some x) = record { number = x; point = p; kind = kind } ∷ []
events_of kind p None = []

-- an event of a point of the net, at the number that the point has there
abbrev pub IsEvent : PlainNet → Event → Type 0
IsEvent net event = (event.point < points net) × (calendar_number event.kind net event.point ≡ Some event.number)

-- events of the net, and among them all those of the points below n, in any order
pub record AreEvents (net : PlainNet) (n : ℕ) (events : List Event) : Type 0 where
  pub right : All (IsEvent net) events
  pub whole : (kind : Kind) (p : ℕ) (x : ℤ) → p < n → calendar_number kind net p ≡ Some x → Contains events (record { number = x; point = p; kind = kind })

-- of events of one number, that of the lower kind comes after an upper one and before one that is past
abbrev pub turn_of : Kind → ℕ
turn_of Upper = 0
turn_of Lower = 1
turn_of Past = 2

-- what events are sorted by: the number, and then the kind
abbrev pub event_key : Event → ℤ × ℕ
event_key event = (event.number, turn_of event.kind)

abbrev pub place_cmp : ℤ × ℕ → ℤ × ℕ → Ordering
place_cmp x y = ordering_then (int_cmp x.0 y.0) (nat_cmp x.1 y.1)

-- the least number comes first, and of one number the kinds in their order
abbrev pub AreEventsInOrder : List Event → Type 0
AreEventsInOrder events = IsSortedByKey event_key place_cmp events

-- all events of a net, in order
pub record IsCalendar (net : PlainNet) (events : List Event) : Type 0 where
  pub complete : AreEvents net (points net) events
  pub in_order : AreEventsInOrder events

-- the least rank that points may have whose lower numbers come after an event of a point of this rank
abbrev pub least_after : Kind → ℕ → ℕ
least_after Upper rank = rank
least_after Lower rank = 0
least_after Past rank = rank + 1

abbrev pub event_at : List Event → ℕ → Event
event_at events k = slice_index_or events k (record { number = pos 0; point = 0; kind = Upper })

-- the events before a place allow a rank there
abbrev pub Allow : List Event → Timeline → ℕ → ℕ → Type 0
Allow events t j rank = (k : ℕ) → k < j → least_after (event_at events k).kind (t (event_at events k).point) ≤ rank

-- where the event at a place is a lower number of a point, the events before it allow the rank of the point
abbrev pub IsAllowedAt : List Event → Timeline → ℕ → Type 0
IsAllowedAt events t j = (event_at events j).kind ≡ Lower → Allow events t j (t (event_at events j).point)

-- the rank of each point is allowed by the events before its lower number
abbrev pub KeepsEvents : List Event → Timeline → Type 0
KeepsEvents events t = (j : ℕ) → j < length events → IsAllowedAt events t j
