-- The edges of a net are all its constraints.
use Rattle.std.proofs.Common.{◌≡◌, ℕ, zero, suc, neg_ℤ, option_map, [], ◌+◌, ◌*◌, ◌<◌, ◌≤◌, List, length, Option, Some, None, inl, inr, refl, sym, ap, subst, ◌∙◌, arith}
use Rattle.std.specs.List.{All, slice_get}
use Rattle.std.proofs.lemmas.Bool.{cases_lt, le-ltb}
use Rattle.std.proofs.lemmas.List.Elements.{All-nil, All-weaker}
use Rattle.std.proofs.lemmas.Option.{option_and_then_some, slice_get_within}
use Rattle.net_core.specs.Atoms.{atoms_of, points_of}
use Rattle.net_core.specs.Nets.{intervals, points}
use Rattle.net_core.specs.Steps.{atom_of}
use Rattle.net_core.specs.declared.net.NetLink.{NetLink}
use Rattle.net_core.specs.declared.step.Step.TheVariants.{Link}
use Rattle.net_core.proofs.AtomLaws.{atoms_counted, few_orders}
use Rattle.seconds_core.specs.declared.line.Line.{Line}
use Rattle.seconds_core.specs.declared.line.Line.TheVariants.{Span, Via, Lower, Upper, Least, Most}
use Rattle.seconds_core.specs.Constraints.{at_most, constraint_by, constraint_of}
use Rattle.seconds_core.specs.declared.timed.Limits.{Limits}
use Rattle.seconds_core.specs.Timed.{IsTimed, PlainTimed, origin}
use Rattle.seconds_core.proofs.InRange.{limits_past, lower_past, upper_past}
use Rattle.seconds_search.specs.declared.edges.Edge.{Edge}
use Rattle.seconds_search.specs.Edges.{AreConstraintEdges, AreInside, Covers, CoversAll, EdgesGrow, IsEdge, IsEdgeInside, IsOfInterval, IsLineOfLink, IsOfPoint}

pub grows_on : (timed : PlainTimed) (a b c : List Edge) (m n count : ℕ) → m + n ≤ count → EdgesGrow timed a b m → EdgesGrow timed b c n → EdgesGrow timed a c count
grows_on timed a b c m n count le g h = record { named = λ all. h.named (g.named all); kept = λ edge is. h.kept edge (g.kept edge is); few = omega (arith, le, g.few, h.few) }

pub grows_not : (timed : PlainTimed) (a : List Edge) → EdgesGrow timed a a 0
grows_not timed a = record { named = λ all. all; kept = λ edge is. is; few = omega arith }

covers_yet : (timed : PlainTimed) (a b : List Edge) (n : ℕ) (line : Line) → EdgesGrow timed a b n → Covers timed a line → Covers timed b line
covers_yet timed a b n line g covers c named = g.kept (record { line = line; constraint = c }) (covers c named)

pub covers_all_yet : (timed : PlainTimed) (a b : List Edge) (n : ℕ) (Kind : Line → Type 0) → EdgesGrow timed a b n → CoversAll timed a Kind → CoversAll timed b Kind
covers_all_yet timed a b n Kind g covers line is = covers_yet timed a b n line g (covers line is)

pub covers_interval : (timed : PlainTimed) (a b c : List Edge) (i : ℕ) → Covers timed a (Span i) → EdgesGrow timed a b 1 → Covers timed b (Least i) → EdgesGrow timed b c 1 → Covers timed c (Most i) → CoversAll timed c (IsOfInterval i)
covers_interval timed a b c i first g second h third (Span j) is = subst (λ n. Covers timed c (Span n)) (sym is) (covers_yet timed b c 1 (Span i) h (covers_yet timed a b 1 (Span i) g first))
covers_interval timed a b c i first g second h third (Least j) is = subst (λ n. Covers timed c (Least n)) (sym is) (covers_yet timed b c 1 (Least i) h second)
covers_interval timed a b c i first g second h third (Most j) is = subst (λ n. Covers timed c (Most n)) (sym is) third
covers_interval timed a b c i first g second h third (Via link atom) is = absurd is
covers_interval timed a b c i first g second h third (Lower p) is = absurd is
covers_interval timed a b c i first g second h third (Upper p) is = absurd is

pub covers_point : (timed : PlainTimed) (a b : List Edge) (p : ℕ) → Covers timed a (Lower p) → EdgesGrow timed a b 1 → Covers timed b (Upper p) → CoversAll timed b (IsOfPoint p)
covers_point timed a b p first g second (Lower q) is = subst (λ n. Covers timed b (Lower n)) (sym is) (covers_yet timed a b 1 (Lower p) g first)
covers_point timed a b p first g second (Upper q) is = subst (λ n. Covers timed b (Upper n)) (sym is) second
covers_point timed a b p first g second (Span i) is = absurd is
covers_point timed a b p first g second (Least i) is = absurd is
covers_point timed a b p first g second (Most i) is = absurd is
covers_point timed a b p first g second (Via link atom) is = absurd is

none_made : {X Y : Type 0} (f : X → Y) (o : Option X) → ((x : X) → o ≡ Some x → ⊥) → option_map f o ≡ None
none_made f None never = refl
none_made f (Some x) never = absurd (never x refl)

-- what is covered up to k, and then of k, is covered up to the next one
pub all_covered : (Kind : ℕ → Line → Type 0) (timed : PlainTimed) (a b : List Edge) (n k : ℕ) → EdgesGrow timed a b n → ((j : ℕ) → j < k → CoversAll timed a (Kind j)) → CoversAll timed b (Kind k) → (j : ℕ) → j < k + 1 → CoversAll timed b (Kind j)
all_covered Kind timed a b n k g before here j lt = elim (cases_lt j k) [
  | inl less ↦ covers_all_yet timed a b n (Kind j) g (before j less)
  | inr last ↦ let same : k ≡ j = omega (arith, last, lt) in subst (λ i. CoversAll timed b (Kind i)) same here
]

-- a relation is four orders at most, so that a line with another number names no constraint
via_past : (timed : PlainTimed) (link atom : ℕ) → 4 ≤ atom → constraint_of timed (Via link atom) ≡ None
via_past timed link atom le = none_made constraint_by (atom_of timed.net (Link link atom)) (λ a is.
    option_and_then_some (λ (l : NetLink). slice_get (atoms_of l.a l.rel l.b) atom) (slice_get timed.net.links link) a is (λ l at here.
    let within = slice_get_within (atoms_of l.a l.rel l.b) atom a here in
    let count = atoms_counted l.rel (points_of l.a) (points_of l.b) in
    omega (arith, le, within, count, few_orders l.rel)))

link_past : (timed : PlainTimed) (link atom : ℕ) → length timed.net.links ≤ link → constraint_of timed (Via link atom) ≡ None
link_past timed link atom le = none_made constraint_by (atom_of timed.net (Link link atom)) (λ a is.
    option_and_then_some (λ (l : NetLink). slice_get (atoms_of l.a l.rel l.b) atom) (slice_get timed.net.links link) a is (λ l at here.
    omega (arith, le, slice_get_within timed.net.links link l at)))

-- a line that names no constraint has none to cover
nothing_named : (timed : PlainTimed) (edges : List Edge) (line : Line) → constraint_of timed line ≡ None → Covers timed edges line
nothing_named timed edges line none c named = let both : None ≡ Some c = sym none ∙ named in absurd cc

orders_covered : (timed : PlainTimed) (a b c d : List Edge) (k : ℕ) → Covers timed a (Via k 0) → EdgesGrow timed a b 1 → Covers timed b (Via k 1) → EdgesGrow timed b c 1 → Covers timed c (Via k 2) → EdgesGrow timed c d 1 → Covers timed d (Via k 3) → (atom : ℕ) → Covers timed d (Via k atom)
orders_covered timed a b c d k first g second h third i fourth zero = covers_yet timed c d 1 (Via k 0) i (covers_yet timed b c 1 (Via k 0) h (covers_yet timed a b 1 (Via k 0) g first))
orders_covered timed a b c d k first g second h third i fourth (suc zero) = covers_yet timed c d 1 (Via k 1) i (covers_yet timed b c 1 (Via k 1) h second)
orders_covered timed a b c d k first g second h third i fourth (suc (suc zero)) = covers_yet timed c d 1 (Via k 2) i third
orders_covered timed a b c d k first g second h third i fourth (suc (suc (suc zero))) = fourth
orders_covered timed a b c d k first g second h third i fourth (suc (suc (suc (suc n)))) = nothing_named timed d (Via k (suc (suc (suc (suc n))))) (via_past timed k (suc (suc (suc (suc n)))) (omega arith))

pub covers_link : (timed : PlainTimed) (a b c d : List Edge) (k : ℕ) → Covers timed a (Via k 0) → EdgesGrow timed a b 1 → Covers timed b (Via k 1) → EdgesGrow timed b c 1 → Covers timed c (Via k 2) → EdgesGrow timed c d 1 → Covers timed d (Via k 3) → CoversAll timed d (IsLineOfLink k)
covers_link timed a b c d k first g second h third i fourth (Via link atom) is = subst (λ n. Covers timed d (Via n atom)) (sym is) (orders_covered timed a b c d k first g second h third i fourth atom)
covers_link timed a b c d k first g second h third i fourth (Span j) is = absurd is
covers_link timed a b c d k first g second h third i fourth (Least j) is = absurd is
covers_link timed a b c d k first g second h third i fourth (Most j) is = absurd is
covers_link timed a b c d k first g second h third i fourth (Lower p) is = absurd is
covers_link timed a b c d k first g second h third i fourth (Upper p) is = absurd is

-- past the intervals, points and links of a net no line names a constraint
module _ (timed : PlainTimed) (edges : List Edge) (is : IsTimed timed)
    (by_interval : (i : ℕ) → i < intervals timed.net → CoversAll timed edges (IsOfInterval i))
    (by_point : (p : ℕ) → p < points timed.net → CoversAll timed edges (IsOfPoint p))
    (by_link : (k : ℕ) → k < length timed.net.links → CoversAll timed edges (IsLineOfLink k)) where
  whole : (line : Line) → Covers timed edges line
  whole (Span i) = elim (cases_lt i (intervals timed.net)) [ inl lt ↦ by_interval i lt (Span i) refl | inr ge ↦ nothing_named timed edges (Span i) (let past = le-ltb i (intervals timed.net) (omega (arith, ge)) in rw past refl) ]
  whole (Least i) = elim (cases_lt i (intervals timed.net)) [ inl lt ↦ by_interval i lt (Least i) refl | inr ge ↦ nothing_named timed edges (Least i) (ap (λ (l : Limits). option_map (λ n. at_most (2 * i + 1) (2 * i) (neg_ℤ n)) l.least) (limits_past timed i is (omega (arith, ge)))) ]
  whole (Most i) = elim (cases_lt i (intervals timed.net)) [ inl lt ↦ by_interval i lt (Most i) refl | inr ge ↦ nothing_named timed edges (Most i) (ap (λ (l : Limits). option_map (λ n. at_most (2 * i) (2 * i + 1) n) l.most) (limits_past timed i is (omega (arith, ge)))) ]
  whole (Lower p) = elim (cases_lt p (points timed.net)) [ inl lt ↦ by_point p lt (Lower p) refl | inr ge ↦ nothing_named timed edges (Lower p) (ap (option_map (λ n. at_most p (origin timed) (neg_ℤ n))) (lower_past timed p (omega (arith, ge)))) ]
  whole (Upper p) = elim (cases_lt p (points timed.net)) [ inl lt ↦ by_point p lt (Upper p) refl | inr ge ↦ nothing_named timed edges (Upper p) (ap (option_map (λ n. at_most (origin timed) p n)) (upper_past timed p (omega (arith, ge)))) ]
  whole (Via k atom) = elim (cases_lt k (length timed.net.links)) [ inl lt ↦ by_link k lt (Via k atom) refl | inr ge ↦ nothing_named timed edges (Via k atom) (link_past timed k atom (omega (arith, ge))) ]

pub edges_are : (timed : PlainTimed) (a b c d : List Edge) (m n o : ℕ) → IsTimed timed → a ≡ [] → EdgesGrow timed a b m → EdgesGrow timed b c n → EdgesGrow timed c d o
    → ((i : ℕ) → i < intervals timed.net → CoversAll timed b (IsOfInterval i))
    → ((p : ℕ) → p < points timed.net → CoversAll timed c (IsOfPoint p))
    → ((k : ℕ) → k < length timed.net.links → CoversAll timed d (IsLineOfLink k))
    → AreConstraintEdges timed d
edges_are timed a b c d m n o is none g h i by_interval by_point by_link = record {
  named = i.named (h.named (g.named (subst (All (IsEdge timed)) (sym none) (All-nil (IsEdge timed)))));
  whole = whole timed d is
      (λ j lt. covers_all_yet timed c d o (IsOfInterval j) i (covers_all_yet timed b c n (IsOfInterval j) h (by_interval j lt)))
      (λ p lt. covers_all_yet timed c d o (IsOfPoint p) i (by_point p lt)) by_link;
}

-- the edges of a net are between points
pub edges_inside : (timed : PlainTimed) (edges : List Edge) → AreConstraintEdges timed edges → AreInside (origin timed + 1) edges
edges_inside timed edges are = All-weaker (IsEdge timed) (IsEdgeInside (origin timed + 1)) (λ edge is. record { from = omega (arith, is.1.from); to = omega (arith, is.1.to); low = is.1.low; high = is.1.high }) edges are.named
