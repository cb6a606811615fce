-- A placing or a cycle has a text, of the net of a document.
use Rattle.std.proofs.Common.{◌≡◌, ℕ, ℤ, pos, neg_ℤ, ◌+◌, ◌*◌, nat_lt, List, [], ◌∷◌, Some, inl, inr, refl, ap, arith}
use Rattle.std.specs.List.{All, AllByRecursion, concat, slice_get}
use Rattle.std.proofs.lemmas.Bool.{ltb-true}
use Rattle.std.proofs.lemmas.Int.{ints}
use Rattle.std.proofs.lemmas.List.Elements.{All-from_recursion, All-weaker}
use Rattle.std.proofs.lemmas.Option.{option_and_then_some, slice_get_within}
use Rattle.net_core.specs.Atoms.{atoms_of, points_of}
use Rattle.net_core.specs.Nets.{intervals}
use Rattle.net_core.specs.Steps.{atom_of}
use Rattle.net_core.specs.declared.net.NetLink.{NetLink}
use Rattle.net_core.specs.declared.step.Step.TheVariants.{Link}
use Rattle.net_core.proofs.AtomLaws.{atoms_counted, few_orders}
use Rattle.seconds_core.specs.Constraints.{at_most, constraint_by, constraint_of}
use Rattle.seconds_core.specs.Cycles.{LeadFromTo}
use Rattle.seconds_core.specs.Evidence.{Placed, Cycle}
use Rattle.seconds_core.specs.Placed.{IsPlaced}
use Rattle.seconds_core.specs.Timed.{IsTimed, PlainTimed, limits_at, lower_second, origin, upper_second}
use Rattle.seconds_core.proofs.InRange.{limits_past, lower_past, upper_past}
use Rattle.seconds_core.proofs.Named.{made, tested, within}
use Rattle.seconds_core.proofs.Sums.{negative_is_unplaced}
use Rattle.seconds_core.specs.declared.line.Constraint.{Constraint}
use Rattle.seconds_core.specs.declared.line.Line.{Line}
use Rattle.seconds_core.specs.declared.line.Line.TheVariants.{Span, Via, Lower, Upper, Least, Most}
use Rattle.seconds_format.specs.Texts.{HasLineNumbers, IsLong, seconds_text_lines}
use Rattle.runs.specs.declared.status.Status.{Status}
use Rattle.runs.specs.declared.status.Status.TheVariants.{Clash, Done}
use Rattle.seconds_search.proofs.EveryNet.{every_net_is_decided}
use Rattle.seconds_search.specs.Decided.{IsFar, IsShortCycle}
use Rattle.seconds_answers.specs.Seconds.{OfTimed, ShowsCycle, ShowsPlacing}

-- the numbers of a line that names a constraint can stand in a text
named_numbers : (timed : PlainTimed) (line : Line) (c : Constraint) → IsTimed timed → constraint_of timed line ≡ Some c → HasLineNumbers line
named_numbers timed (Span i) c is e =
    let (lt, same) = tested (nat_lt i (intervals timed.net)) (at_most (2 * i + 1) (2 * i) (neg_ℤ (pos 1))) c e in
    let net = is.net in
    omega (arith, ltb-true i (intervals timed.net) lt, net.few_intervals)
named_numbers timed (Via link atom) c is e =
    let (a, at, same) = made constraint_by (atom_of timed.net (Link link atom)) c e in
    let net = is.net in
    option_and_then_some (λ (l : NetLink). slice_get (atoms_of l.a l.rel l.b) atom) (slice_get timed.net.links link) a at (λ l here there.
    let count = atoms_counted l.rel (points_of l.a) (points_of l.b) in
    (omega (arith, slice_get_within timed.net.links link l here, net.few_links), omega (arith, slice_get_within (atoms_of l.a l.rel l.b) atom a there, count, few_orders l.rel)))
named_numbers timed (Lower p) c is e =
    let (n, at, same) = made (λ n. at_most p (origin timed) (neg_ℤ n)) (lower_second timed p) c e in
    let net = is.net in
    omega (arith, within (lower_second timed p) n p (origin timed) at (lower_past timed p), net.few_intervals)
named_numbers timed (Upper p) c is e =
    let (n, at, same) = made (λ n. at_most (origin timed) p n) (upper_second timed p) c e in
    let net = is.net in
    omega (arith, within (upper_second timed p) n p (origin timed) at (upper_past timed p), net.few_intervals)
named_numbers timed (Least i) c is e =
    let (n, at, same) = made (λ n. at_most (2 * i + 1) (2 * i) (neg_ℤ n)) (limits_at timed i).least c e in
    let net = is.net in
    omega (arith, within (limits_at timed i).least n i (intervals timed.net) at (λ le. ap (λ l. l.least) (limits_past timed i is le)), net.few_intervals)
named_numbers timed (Most i) c is e =
    let (n, at, same) = made (λ n. at_most (2 * i) (2 * i + 1) n) (limits_at timed i).most c e in
    let net = is.net in
    omega (arith, within (limits_at timed i).most n i (intervals timed.net) at (λ le. ap (λ l. l.most) (limits_past timed i is le)), net.few_intervals)

joined_numbers : (timed : PlainTimed) → IsTimed timed → (lines : List Line) (x y : ℕ) → LeadFromTo timed lines x y → AllByRecursion HasLineNumbers lines
joined_numbers timed is [] x y joined = tt
joined_numbers timed is (line ∷ lines) x y (c, named, from, rest) = (named_numbers timed line c is named, joined_numbers timed is lines c.to y rest)

-- a second that is not too far from second 0 can stand in a text
far_is_long : (s : ℤ) → IsFar s → IsLong s
far_is_long s far = omega (arith, ints, far.0, far.1)

placing_text : (timed : PlainTimed) (seconds : List ℤ) → IsTimed timed → IsPlaced timed seconds → All IsFar seconds → (text : List ℕ) × ShowsPlacing timed text
placing_text timed seconds is placed far =
    let net = is.net in
    let size = placed.size in
    (concat (seconds_text_lines (Placed seconds)), (seconds, placed, (((omega (arith, size), omega (arith, size, net.few_intervals)), All-weaker IsFar IsLong far_is_long seconds far), refl)))

cycle_text : (timed : PlainTimed) (lines : List Line) → IsTimed timed → IsShortCycle timed lines → (text : List ℕ) × ShowsCycle timed text
cycle_text timed lines is short =
    let net = is.net in
    let ((x, joined, below), few) = short in (
      concat (seconds_text_lines (Cycle lines)),
      (
        (λ has. negative_is_unplaced timed lines is (x, joined, below) has),
        lines,
        short,
        ((All-from_recursion HasLineNumbers lines (joined_numbers timed is lines x x joined), omega (arith, few, net.few_intervals)), refl),
      ),
    )

-- so there is an answer
pub timed_answered : (timed : PlainTimed) → IsTimed timed → (status : Status) × (text : List ℕ) × OfTimed timed status text
timed_answered timed is = elim (every_net_is_decided timed is) [
  | inl (seconds, placed, far) ↦ let shown = placing_text timed seconds is placed far in (Done, shown.0, shown.1)
  | inr (lines, short) ↦ let shown = cycle_text timed lines is short in (Clash, shown.0, shown.1)
]
