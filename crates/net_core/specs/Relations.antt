-- What the relations say of two intervals, by their starts and ends (Allen 1983).
use Rattle.std.specs.Prelude.{◌≡◌, ℕ, ◌+◌, ◌*◌, ◌<◌, ◌≤◌}
use Rattle.net_core.specs.declared.net.Ends.{Ends}
use Rattle.net_core.specs.declared.rels.Rel.{Rel}
use Rattle.net_core.specs.declared.rels.Rel.TheVariants as rel

-- `a` is before `b`
abbrev pub Precedes : Ends → Ends → Type 0
Precedes a b = a.finish < b.start

-- `a` meets `b`
abbrev pub Meets : Ends → Ends → Type 0
Meets a b = a.finish ≡ b.start

-- `a` lies inside `b`, and has neither end in common with it
abbrev pub LiesInside : Ends → Ends → Type 0
LiesInside a b = (b.start < a.start) × (a.finish < b.finish)

-- `a` lies within `b`, and may have ends in common with it
abbrev pub LiesWithin : Ends → Ends → Type 0
LiesWithin a b = (b.start ≤ a.start) × (a.finish ≤ b.finish)

-- `a` starts `b`
abbrev pub Starts : Ends → Ends → Type 0
Starts a b = (a.start ≡ b.start) × (a.finish < b.finish)

-- `a` finishes `b`
abbrev pub Finishes : Ends → Ends → Type 0
Finishes a b = (a.finish ≡ b.finish) × (b.start < a.start)

-- `a` equals `b`
abbrev pub Equals : Ends → Ends → Type 0
Equals a b = (a.start ≡ b.start) × (a.finish ≡ b.finish)

-- `a` starts first and overlaps `b`, which ends last
abbrev pub Overlaps : Ends → Ends → Type 0
Overlaps a b = (a.start < b.start) × (b.start < a.finish) × (a.finish < b.finish)

-- The relation holds of two intervals. An inverse holds of `a` and `b` where its relation holds of `b` and `a`.
abbrev pub Holds : Ends → Rel → Ends → Type 0
Holds a rel.Before b = Precedes a b
Holds a rel.After b = Precedes b a
Holds a rel.Includes b = LiesInside b a
Holds a rel.IsIncluded b = LiesInside a b
Holds a rel.During b = LiesWithin a b
Holds a rel.DuringInv b = LiesWithin b a
Holds a rel.Simultaneous b = Equals a b
Holds a rel.Identity b = Equals a b
Holds a rel.Ibefore b = Meets a b
Holds a rel.Iafter b = Meets b a
Holds a rel.Begins b = Starts a b
Holds a rel.BegunBy b = Starts b a
Holds a rel.Ends b = Finishes a b
Holds a rel.EndedBy b = Finishes b a
Holds a rel.Overlaps b = Overlaps a b
Holds a rel.OverlappedBy b = Overlaps b a

-- A timeline gives a number to each point. Interval i starts at point 2 i, and ends at point 2 i + 1.
abbrev pub Timeline : Type 0
Timeline = ℕ → ℕ

-- the start and the end of an interval
abbrev pub ends_of : Timeline → ℕ → Ends
ends_of t i = record { start = t (2 * i); finish = t (2 * i + 1) }

-- the relation holds of intervals a and b
abbrev pub Relates : Timeline → ℕ → Rel → ℕ → Type 0
Relates t a r b = Holds (ends_of t a) r (ends_of t b)
