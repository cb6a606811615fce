-- Numbers of a net with limits are within theirs, and past its points and intervals there are none.
use Rattle.std.proofs.Common.{◌≡◌, ◌==◌, ℕ, ◌+◌, ◌*◌, ◌/◌, ◌%◌, ◌<◌, ◌≤◌, nat_lt, pos, neg_ℤ, Bool, true, false, Some, None, refl, ap, subst, arith}
use Rattle.std.specs.Prelude.{IfSome}
use Rattle.std.proofs.lemmas.Bool.{ltb-true}
use Rattle.std.proofs.lemmas.Int.{ints}
use Rattle.std.proofs.lemmas.List.{get_or_past}
use Rattle.std.proofs.lemmas.List.Elements.{All-get_or}
use Rattle.net_core.specs.Bounds.{lower_of, upper_of}
use Rattle.net_core.specs.Nets.{bounds_at, intervals, points}
use Rattle.net_core.specs.Steps.{atom_of}
use Rattle.net_core.specs.declared.atom.Atom.{Atom}
use Rattle.net_core.specs.declared.bounds.Bounds.{Bounds}
use Rattle.net_core.specs.declared.bounds.Bounds.TheVariants.{Exact, Within, Free}
use Rattle.net_core.specs.declared.step.Step.TheVariants.{Link}
use Rattle.net_core.proofs.StepLaws.{step_in_range}
use Rattle.seconds_core.specs.declared.line.Constraint.{Constraint}
use Rattle.seconds_core.specs.declared.line.Line.{Line}
use Rattle.seconds_core.specs.declared.line.Line.TheVariants.{Span, Via, Lower, Upper, Least, Most}
use Rattle.seconds_core.proofs.Named.{made, tested, there, within}
use Rattle.seconds_core.specs.Constraints.{IsConstraintWithin, at_most, constraint_by, constraint_of}
use Rattle.seconds_core.specs.Timed.{AreLengths, AreSeconds, IsLength, IsSecond, IsTimed, PlainTimed, limits_at, lower_second, origin, upper_second}

pub lengths_at : (timed : PlainTimed) (i : ℕ) → IsTimed timed → i < intervals timed.net → AreLengths (limits_at timed i)
lengths_at timed i is lt = All-get_or AreLengths timed.limits i (record { least = None; most = None }) (omega (arith, lt, is.size)) is.lengths

-- past the intervals there are no limits
pub limits_past : (timed : PlainTimed) (i : ℕ) → IsTimed timed → intervals timed.net ≤ i → limits_at timed i ≡ record { least = None; most = None }
limits_past timed i is le = get_or_past timed.limits i (record { least = None; most = None }) (omega (arith, le, is.size))

lower_near : (b : Bounds) (is_end : Bool) → AreSeconds b → IfSome (lower_of b is_end) IsSecond
lower_near (Exact lo hi) true s = s.1
lower_near (Exact lo hi) false s = s.0
lower_near (Within lo hi) true s = tt
lower_near (Within lo hi) false s = s.0
lower_near Free is_end s = tt

upper_near : (b : Bounds) (is_end : Bool) → AreSeconds b → IfSome (upper_of b is_end) IsSecond
upper_near (Exact lo hi) true s = s.1
upper_near (Exact lo hi) false s = s.0
upper_near (Within lo hi) true s = s.1
upper_near (Within lo hi) false s = tt
upper_near Free is_end s = tt

near_at : (timed : PlainTimed) (p : ℕ) → IsTimed timed → p < points timed.net → AreSeconds (bounds_at timed.net (p / 2))
near_at timed p is lt = All-get_or AreSeconds timed.net.bounds (p / 2) Free (omega (arith, lt)) is.near

pub lower_in_range : (timed : PlainTimed) (p : ℕ) → IsTimed timed → p < points timed.net → IfSome (lower_second timed p) IsSecond
lower_in_range timed p is lt = lower_near (bounds_at timed.net (p / 2)) (p % 2 == 1) (near_at timed p is lt)

pub upper_in_range : (timed : PlainTimed) (p : ℕ) → IsTimed timed → p < points timed.net → IfSome (upper_second timed p) IsSecond
upper_in_range timed p is lt = upper_near (bounds_at timed.net (p / 2)) (p % 2 == 1) (near_at timed p is lt)

-- past the points there are no numbers of a calendar
past : (timed : PlainTimed) (p : ℕ) → origin timed ≤ p → bounds_at timed.net (p / 2) ≡ Free
past timed p le = get_or_past timed.net.bounds (p / 2) Free (omega (arith, le))

pub lower_past : (timed : PlainTimed) (p : ℕ) → origin timed ≤ p → lower_second timed p ≡ None
lower_past timed p le = ap (λ b. lower_of b (p % 2 == 1)) (past timed p le)

pub upper_past : (timed : PlainTimed) (p : ℕ) → origin timed ≤ p → upper_second timed p ≡ None
upper_past timed p le = ap (λ b. upper_of b (p % 2 == 1)) (past timed p le)

within_by : (timed : PlainTimed) (a : Atom) (strict : Bool) → a.strict ≡ strict → a.from ≤ origin timed → a.to ≤ origin timed → IsConstraintWithin timed (constraint_by a)
within_by timed a true e from to = record { from = to; to = from; low = rw e (omega (arith, ints)); high = rw e (omega (arith, ints)) }
within_by timed a false e from to = record { from = to; to = from; low = rw e (omega (arith, ints)); high = rw e (omega (arith, ints)) }

-- the constraint of an order of a link is between points of the net
pub via_in_range : (timed : PlainTimed) (link atom : ℕ) (a : Atom) → IsTimed timed → atom_of timed.net (Link link atom) ≡ Some a → IsConstraintWithin timed (constraint_by a)
via_in_range timed link atom a is e =
    let in_range = step_in_range timed.net (Link link atom) a is.net e in
    within_by timed a a.strict refl (omega (arith, in_range.0)) (omega (arith, in_range.1))

-- a constraint that a line names is between points, and its weight is not too far from 0
pub named_within : (timed : PlainTimed) (line : Line) (c : Constraint) → IsTimed timed → constraint_of timed line ≡ Some c → IsConstraintWithin timed c
named_within timed (Span i) c is e =
    let (lt, same) = tested (nat_lt i (intervals timed.net)) (at_most (2 * i + 1) (2 * i) (neg_ℤ (pos 1))) c e in
    let less = ltb-true i (intervals timed.net) lt in
    subst (IsConstraintWithin timed) same (record { from = omega (arith, less); to = omega (arith, less); low = omega (arith, ints); high = omega (arith, ints) })
named_within timed (Via link atom) c is e =
    let (a, at, same) = made constraint_by (atom_of timed.net (Link link atom)) c e in
    subst (IsConstraintWithin timed) same (via_in_range timed link atom a is at)
named_within timed (Lower p) c is e =
    let (n, at, same) = made (λ n. at_most p (origin timed) (neg_ℤ n)) (lower_second timed p) c e in
    let lt = within (lower_second timed p) n p (origin timed) at (lower_past timed p) in
    let near = there IsSecond (lower_second timed p) n (lower_in_range timed p is lt) at in
    subst (IsConstraintWithin timed) same (record { from = omega (arith, lt); to = omega arith; low = omega (arith, ints, near.1); high = omega (arith, ints, near.0) })
named_within timed (Upper p) c is e =
    let (n, at, same) = made (λ n. at_most (origin timed) p n) (upper_second timed p) c e in
    let lt = within (upper_second timed p) n p (origin timed) at (upper_past timed p) in
    let near = there IsSecond (upper_second timed p) n (upper_in_range timed p is lt) at in
    subst (IsConstraintWithin timed) same (record { from = omega arith; to = omega (arith, lt); low = near.0; high = near.1 })
named_within timed (Least i) c is e =
    let (n, at, same) = made (λ n. at_most (2 * i + 1) (2 * i) (neg_ℤ n)) (limits_at timed i).least c e in
    let lt = within (limits_at timed i).least n i (intervals timed.net) at (λ le. ap (λ l. l.least) (limits_past timed i is le)) in
    let length = there IsLength (limits_at timed i).least n (lengths_at timed i is lt).0 at in
    subst (IsConstraintWithin timed) same (record { from = omega (arith, lt); to = omega (arith, lt); low = omega (arith, ints, length.1); high = omega (arith, ints, length.0) })
named_within timed (Most i) c is e =
    let (n, at, same) = made (λ n. at_most (2 * i) (2 * i + 1) n) (limits_at timed i).most c e in
    let lt = within (limits_at timed i).most n i (intervals timed.net) at (λ le. ap (λ l. l.most) (limits_past timed i is le)) in
    let length = there IsLength (limits_at timed i).most n (lengths_at timed i is lt).1 at in
    subst (IsConstraintWithin timed) same (record { from = omega (arith, lt); to = omega (arith, lt); low = omega (arith, ints, length.0); high = omega (arith, ints, length.1) })
