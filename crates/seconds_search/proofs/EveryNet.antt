-- Every net has a placing or a short negative cycle: edges are relaxed over definitions alone.
use Rattle.std.proofs.Common.{◌≡◌, ◌⊎◌, ℕ, zero, suc, ◌+◌, ◌<◌, ◌≤◌, ℤ, pos, negsuc, neg_ℤ, ◌+ℤ◌, ◌-ℤ◌, ◌<ℤ◌, ◌≤ℤ◌, List, [], ◌∷◌, ◌++◌, drop, length, map, replicate, reverse, set, take, Option, Some, None, inl, inr, refl, sym, ap, subst, ◌∙◌, arith}
use Rattle.std.specs.List.{All, Contains}
use Rattle.std.proofs.lemmas.Bool.{cases_lt}
use Rattle.std.proofs.lemmas.Int.{ints}
use Rattle.std.proofs.lemmas.List.{get_or-map, get_or-take, length-map, length-replicate, length-reverse, length-set, length-take-le, length_push}
use Rattle.std.proofs.lemmas.List.Elements.{All-from_get_or, All-get_or, All-push, Contains-append_left, Contains-push}
use Rattle.net_core.specs.Nets.{intervals, points}
use Rattle.seconds_core.specs.Constraints.{IsMet, constraint_of}
use Rattle.seconds_core.specs.Placed.{IsPlaced, second_at}
use Rattle.seconds_core.specs.Timed.{IsTimed, PlainTimed, origin}
use Rattle.seconds_core.specs.declared.line.Constraint.{Constraint}
use Rattle.seconds_core.specs.declared.line.Line.{Line}
use Rattle.seconds_core.specs.declared.line.Line.TheVariants.{Span, Via, Lower, Upper, Least, Most}
use Rattle.seconds_core.proofs.InRange.{named_within}
use Rattle.seconds_search.specs.declared.edges.Edge.{Edge}
use Rattle.seconds_search.specs.Decided.{EveryNetIsDecided, IsFar, IsShortCycle}
use Rattle.seconds_search.specs.Edges.{AreConstraintEdges, Covers, CoversAll, EdgesGrow, IsEdge, IsOfInterval, IsLineOfLink, IsOfPoint, edge_line}
use Rattle.seconds_search.specs.Relaxation.{AreMet, IsClosedTrail, IsNear, IsRelaxed, IsTooLow, PlainDistances, constraint_at, lowest, predecessor, total}
use Rattle.seconds_search.proofs.EdgeLaws.{all_covered, covers_interval, covers_link, covers_point, edges_are, edges_inside, grows_not, grows_on}
use Rattle.seconds_search.proofs.Relaxing.{at_zero, edge_inside, relaxed, relaxed_at_zero, stays_relaxed, total_less}
use Rattle.seconds_search.proofs.Settling.{settled_is_placed}
use Rattle.seconds_search.proofs.Trails.{IsWalked, closed_is_negative, free, free_less, none_or_some, walk_begins, walk_closes, walk_ends, walk_goes_on}

-- ---- all edges

edge_named : (timed : PlainTimed) (old : List Edge) (line : Line) (c : Option Constraint) → IsTimed timed → constraint_of timed line ≡ c → (new : List Edge) × EdgesGrow timed old new 1 × Covers timed new line
edge_named timed old line None is none = (old, grows_on timed old old old 0 0 1 (omega arith) (grows_not timed old) (grows_not timed old), λ c named. let both : None ≡ Some c = sym none ∙ named in absurd cc)
edge_named timed old line (Some c) is here =
    let edge : Edge = record { line = line; constraint = c } in (
      old ++ edge ∷ [],
      record {
        named = λ all. All-push (IsEdge timed) old edge all (here, named_within timed line c is here);
        kept = λ e has. Contains-append_left old (edge ∷ []) e has;
        few = omega (arith, length_push old edge);
      },
      λ d named. let both : Some c ≡ Some d = sym here ∙ named in let same : c ≡ d = cc in subst (λ (x : Constraint). Contains (old ++ edge ∷ []) (record { line = line; constraint = x })) same (Contains-push old edge),
    )

one_edge : (timed : PlainTimed) → IsTimed timed → (old : List Edge) (line : Line) → (new : List Edge) × EdgesGrow timed old new 1 × Covers timed new line
one_edge timed is old line = edge_named timed old line (constraint_of timed line) is refl

-- edges that cover the lines of a kind with one number, made of any
abbrev pub Coverer : PlainTimed → (ℕ → Line → Type 0) → Type 0
Coverer timed Kind = (k : ℕ) (old : List Edge) → (new : List Edge) × (n : ℕ) × EdgesGrow timed old new n × CoversAll timed new (Kind k)

up_to : (timed : PlainTimed) (Kind : ℕ → Line → Type 0) → Coverer timed Kind → (n : ℕ) (old : List Edge) → (new : List Edge) × (m : ℕ) × EdgesGrow timed old new m × ((k : ℕ) → k < n → CoversAll timed new (Kind k))
up_to timed Kind one zero old = (old, 0, grows_not timed old, λ k lt. absurd (omega (arith, lt)))
up_to timed Kind one (suc n) old =
    let (before, m, grows, covers) = up_to timed Kind one n old in
    let (new, more, step, here) = one n before in (
      new,
      m + more,
      grows_on timed old before new m more (m + more) (omega arith) grows step,
      λ k lt. all_covered Kind timed before new more n step covers here k (omega (arith, lt)),
    )

module _ (timed : PlainTimed) (is : IsTimed timed) where
  an_interval : Coverer timed IsOfInterval
  an_interval i old =
      let (a, first, one) = one_edge timed is old (Span i) in
      let (b, second, two) = one_edge timed is a (Least i) in
      let (c, third, three) = one_edge timed is b (Most i) in
      (c, 3, grows_on timed old b c 2 1 3 (omega arith) (grows_on timed old a b 1 1 2 (omega arith) first second) third, covers_interval timed a b c i one second two third three)

  a_point : Coverer timed IsOfPoint
  a_point p old =
      let (a, first, one) = one_edge timed is old (Lower p) in
      let (b, second, two) = one_edge timed is a (Upper p) in
      (b, 2, grows_on timed old a b 1 1 2 (omega arith) first second, covers_point timed a b p one second two)

  a_link : Coverer timed IsLineOfLink
  a_link k old =
      let (a, first, one) = one_edge timed is old (Via k 0) in
      let (b, second, two) = one_edge timed is a (Via k 1) in
      let (c, third, three) = one_edge timed is b (Via k 2) in
      let (d, fourth, four) = one_edge timed is c (Via k 3) in
      (d, 4, grows_on timed old b d 2 2 4 (omega arith) (grows_on timed old a b 1 1 2 (omega arith) first second) (grows_on timed b c d 1 1 2 (omega arith) third fourth), covers_link timed a b c d k one second two third three fourth four)

  all_edges : (edges : List Edge) × AreConstraintEdges timed edges
  all_edges =
      let (b, m, g, by_interval) = up_to timed IsOfInterval an_interval (intervals timed.net) [] in
      let (c, n, h, by_point) = up_to timed IsOfPoint a_point (points timed.net) b in
      let (d, o, i, by_link) = up_to timed IsLineOfLink a_link (length timed.net.links) c in
      (d, edges_are timed [] b c d m n o is refl g h i by_interval by_point by_link)

-- one second is before another, or it is not
lower_or_not : (m n : ℤ) → (m <ℤ n) ⊎ (n ≤ℤ m)
lower_or_not (pos m) (pos n) = elim (cases_lt m n) [ inl lt ↦ inl (omega (arith, ints, lt)) | inr ge ↦ inr (omega (arith, ints, ge)) ]
lower_or_not (pos m) (negsuc n) = inr (omega (arith, ints))
lower_or_not (negsuc m) (pos n) = inl (omega (arith, ints))
lower_or_not (negsuc m) (negsuc n) = elim (cases_lt n m) [ inl lt ↦ inl (omega (arith, ints, lt)) | inr ge ↦ inr (omega (arith, ints, ge)) ]

-- ---- relaxed until all edges are met, or a point is too low

module _ (edges : List Edge) where
  -- distances that meet all edges
  abbrev Settled : ℕ → Type 0
  Settled size = (d : PlainDistances) × IsRelaxed edges d × AreMet edges d.seconds × (length d.seconds ≡ size)

  abbrev Cyclic : ℕ → Type 0
  Cyclic size = (d : PlainDistances) × IsRelaxed edges d × (length d.seconds ≡ size) × ((trail : List ℕ) × (p : ℕ) × IsClosedTrail edges d trail p)

  unmet : (seconds : List ℤ) (n : ℕ) → n ≤ length edges → ((e : ℕ) → e < n → IsMet seconds (constraint_at edges e)) ⊎ ((e : ℕ) × (e < length edges) × ((second_at seconds (constraint_at edges e).from +ℤ (constraint_at edges e).weight) <ℤ second_at seconds (constraint_at edges e).to))
  unmet seconds zero le = inl (λ e lt. absurd (omega (arith, lt)))
  unmet seconds (suc n) le = elim (unmet seconds n (omega (arith, le))) [
    | inr found ↦ inr found
    | inl met ↦ elim (lower_or_not (second_at seconds (constraint_at edges n).from +ℤ (constraint_at edges n).weight) (second_at seconds (constraint_at edges n).to)) [
      | inl later ↦ inr (n, omega (arith, le), later)
      | inr here ↦ inl (λ e lt. elim (cases_lt e n) [
        | inl before ↦ met e before
        | inr last ↦ let same : n ≡ e = omega (arith, last, lt) in subst (λ (f : ℕ). IsMet seconds (constraint_at edges f)) same here
      ])
    ]
  ]

  module _ (d : PlainDistances) (is : IsRelaxed edges d) (from : ℕ) (deep : IsTooLow d.seconds from) where
    walked : (n : ℕ) (trail : List ℕ) (places : List (Option ℕ)) (point : ℕ) → free places < n → IsWalked edges d from trail places point → (closed : List ℕ) × (p : ℕ) × IsClosedTrail edges d closed p
    walked zero trail places point few so_far = absurd (omega (arith, few))
    walked (suc n) trail places point few so_far = elim (none_or_some (predecessor d.predecessors point)) [
      | inl root ↦ absurd (walk_ends edges d is from trail places point so_far root deep)
      | inr (e, at) ↦ elim (none_or_some (predecessor places point)) [
        | inr (k, met) ↦ (drop k trail, point, walk_closes edges d is from trail places point so_far k met)
        | inl unplaced ↦
            let less = free_less places point (length trail) (omega (arith, so_far.inside, so_far.size)) unplaced in
            walked n (trail ++ e ∷ []) (set places point (Some (length trail))) (constraint_at edges e).from (omega (arith, few, less)) (walk_goes_on edges d is from trail places point so_far e at unplaced)
      ]
    ]

  settled : (n : ℕ) (d : PlainDistances) → total d.seconds < n → IsRelaxed edges d → Settled (length d.seconds) ⊎ Cyclic (length d.seconds)
  settled zero d few is = absurd (omega (arith, few))
  settled (suc n) d few is = elim (unmet d.seconds (length edges) (omega arith)) [
    | inl met ↦ inl (d, is, met, refl)
    | inr (e, lt, later) ↦
        let c = constraint_at edges e in
        let s : ℤ = second_at d.seconds c.from +ℤ c.weight in
        let within = edge_inside (length d.seconds) edges e is.inside lt in
        elim (lower_or_not s (neg_ℤ (pos lowest))) [
          | inl deep ↦ inr (d, is, refl, walked d is c.from (omega (arith, ints, deep, within.low)) (suc (free (replicate (length d.seconds) None))) [] (replicate (length d.seconds) None) c.from (omega arith) (walk_begins edges d is c.from within.from))
          | inr low ↦
              let size = length-set d.seconds c.to s in
              let less = total_less d.seconds c.to s within.to low later in
              subst (λ (m : ℕ). Settled m ⊎ Cyclic m) size (settled n (relaxed edges d is e lt s refl later low) (omega (arith, few, less)) (stays_relaxed edges d is e lt s refl later low))
        ]
  ]

-- ---- placed, or a cycle

-- the seconds of all points but the origin, counted from there
counted_from : (seconds : List ℤ) (n : ℕ) → n < length seconds → All IsNear seconds
    → (counted : List ℤ) × (length counted ≡ n) × ((p : ℕ) → p < n → second_at counted p ≡ second_at seconds p -ℤ second_at seconds n) × All IsFar counted
counted_from seconds n lt near =
    let origin = second_at seconds n in
    let counted = map (λ s. s -ℤ origin) (take n seconds) in
    let size : length counted ≡ n = length-map (take n seconds) (λ s. s -ℤ origin) ∙ length-take-le n seconds (omega (arith, lt)) in
    let at : (p : ℕ) → p < n → second_at counted p ≡ second_at seconds p -ℤ origin = λ p less.
    get_or-map (λ s. s -ℤ origin) (take n seconds) p (pos 0) (pos 0) (omega (arith, less, size, length-map (take n seconds) (λ s. s -ℤ origin))) ∙ ap (λ s. s -ℤ origin) (get_or-take n seconds p (pos 0) less) in
    let last : IsNear origin = All-get_or IsNear seconds n (pos 0) lt near in (
      counted,
      size,
      at,
      All-from_get_or IsFar counted (pos 0) (λ p less.
          let here : IsNear (second_at seconds p) = All-get_or IsNear seconds p (pos 0) (omega (arith, less, size, lt)) near in
          let is = at p (omega (arith, less, size)) in
          (omega (arith, ints, is, here.0, last.1), omega (arith, ints, is, here.1, last.0))),
    )

module _ (timed : PlainTimed) (is : IsTimed timed) (edges : List Edge) (are : AreConstraintEdges timed edges) where
  placed : Settled edges (origin timed + 1) → (seconds : List ℤ) × IsPlaced timed seconds × All IsFar seconds
  placed (d, relaxed, met, size) =
      let (counted, count, at, far) = counted_from d.seconds (origin timed) (omega (arith, size)) relaxed.near in (
        counted,
        settled_is_placed timed edges d.seconds counted is are size met (omega (arith, count, size))
            (λ p lt. at p (omega (arith, lt, count)) ∙ ap (λ n. second_at d.seconds p -ℤ second_at d.seconds n) (sym count)),
        far,
      )

  cycle : Cyclic edges (origin timed + 1) → (lines : List Line) × IsShortCycle timed lines
  cycle (d, relaxed, size, (trail, p, closed)) =
      let lines = map (edge_line edges) trail in
      (reverse lines, (closed_is_negative timed edges d relaxed are.named trail p closed, omega (arith, length-reverse lines, length-map trail (edge_line edges), closed.few, size)))

pub every_net_is_decided : EveryNetIsDecided
every_net_is_decided timed is =
    let (edges, are) = all_edges timed is in
    let net = is.net in
    let n : ℕ = origin timed + 1 in
    let begun = relaxed_at_zero edges n (omega (arith, net.few_intervals)) (edges_inside timed edges are) in
    let ended = settled edges (suc (total (at_zero n).seconds)) (at_zero n) (omega arith) begun in
    elim (subst (λ (m : ℕ). Settled edges m ⊎ Cyclic edges m) (length-replicate n (pos 0)) ended) [
      | inl settled ↦ inl (placed timed is edges are settled)
      | inr closed ↦ inr (cycle timed is edges are closed)
    ]
