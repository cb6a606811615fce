-- The way back over predecessors: it comes to a point again, or to one without a predecessor.
use Rattle.std.proofs.Common.{◌≡◌, ◌⊎◌, ℕ, zero, suc, ◌+◌, ◌*◌, ◌<◌, pos, neg_ℤ, ◌+ℤ◌, ◌≤ℤ◌, List, [], ◌∷◌, ◌++◌, length, drop, map, replicate, reverse, set, slice_index, Option, Some, None, inl, inr, refl, sym, ap, subst, ◌∙◌, arith, length-drop}
use Rattle.std.specs.List.{All}
use Rattle.std.proofs.lemmas.Bool.{cases_eq}
use Rattle.std.proofs.lemmas.Int.{ints}
use Rattle.std.proofs.lemmas.List.{get_or-set_other, get_or-set_same, get_or_append_left, get_or_push, length-replicate, length-set, length_push, reverse-append}
use Rattle.std.proofs.lemmas.List.Elements.{All-cons, All-get_or, All-nil}
use Rattle.seconds_core.specs.Constraints.{constraint_of}
use Rattle.seconds_core.specs.Cycles.{LeadFromTo, IsNegative, sum_of, weight_in}
use Rattle.seconds_core.specs.Timed.{PlainTimed, max_second}
use Rattle.seconds_core.specs.declared.line.Line.{Line}
use Rattle.seconds_search.specs.declared.edges.Edge.{Edge}
use Rattle.seconds_search.specs.Edges.{IsEdge, edge_line}
use Rattle.seconds_search.specs.Relaxation.{IsClosedTrail, IsRelaxed, IsTooLow, IsTrail, PlainDistances, constraint_at, predecessor, weight_of}
use Rattle.seconds_search.proofs.Relaxing.{edge_inside, filled, no_edge, trail_weighs}

-- ---- places of points on the way

-- how many points have no place
abbrev pub free : List (Option ℕ) → ℕ
free [] = 0
free (None ∷ places) = suc (free places)
free (Some k ∷ places) = free places

free_all : (n : ℕ) → free (replicate n None) ≡ n
free_all zero = refl
free_all (suc n) = ap suc (free_all n)

pub free_less : (places : List (Option ℕ)) (p k : ℕ) → p < length places → predecessor places p ≡ None → suc (free (set places p (Some k))) ≡ free places
free_less [] p k lt none = absurd (omega (arith, lt))
free_less (None ∷ places) zero k lt none = refl
free_less (Some j ∷ places) zero k lt none = absurd cc
free_less (None ∷ places) (suc p) k lt none = ap suc (free_less places p k (omega (arith, lt)) none)
free_less (Some j ∷ places) (suc p) k lt none = free_less places p k (omega (arith, lt)) none

pub none_or_some : (o : Option ℕ) → (o ≡ None) ⊎ ((k : ℕ) × (o ≡ Some k))
none_or_some None = inl refl
none_or_some (Some k) = inr (k, refl)

-- The way back from a point has come to another one, and each point on it has its place.
pub record IsWalked (edges : List Edge) (d : PlainDistances) (from : ℕ) (trail : List ℕ) (places : List (Option ℕ)) (point : ℕ) : Type 0 where
  pub inside : point < length d.seconds
  pub way : IsTrail edges d.predecessors from trail point
  pub size : length places ≡ length d.seconds
  pub count : length trail + free places ≡ length d.seconds
  pub placed : (p k : ℕ) → predecessor places p ≡ Some k → (k < length trail) × (predecessor d.predecessors p ≡ Some (slice_index trail k))

-- ---- trails

module _ (edges : List Edge) (predecessors : List (Option ℕ)) where
  trail_push : (trail : List ℕ) (p q e : ℕ) → IsTrail edges predecessors p trail q → predecessor predecessors q ≡ Some e → IsTrail edges predecessors p (trail ++ e ∷ []) (constraint_at edges e).from
  trail_push [] p q e same at = (ap (predecessor predecessors) same ∙ at, refl)
  trail_push (f ∷ trail) p q e on at = (on.0, trail_push trail (constraint_at edges f).from q e on.1 at)

  trail_from : (trail : List ℕ) (k p q : ℕ) → k < length trail → IsTrail edges predecessors p trail q → (x : ℕ) × (predecessor predecessors x ≡ Some (slice_index trail k)) × IsTrail edges predecessors x (drop k trail) q
  trail_from [] k p q lt on = absurd (omega (arith, lt))
  trail_from (f ∷ trail) zero p q lt on = (p, on.0, on)
  trail_from (f ∷ trail) (suc k) p q lt on = trail_from trail k (constraint_at edges f).from q (omega (arith, lt)) on.1

module _ (edges : List Edge) (d : PlainDistances) (is : IsRelaxed edges d) where
  weight_near : (trail : List ℕ) (p q : ℕ) → IsTrail edges d.predecessors p trail q → neg_ℤ (pos (length trail * max_second)) ≤ℤ weight_of edges trail
  weight_near [] p q on = omega (arith, ints)
  weight_near (e ∷ trail) p q (at, on) =
      let here = (edge_inside (length d.seconds) edges e is.inside (is.lowered p e at).edge).low in
      let rest = weight_near trail (constraint_at edges e).from q on in
      omega (arith, ints, here, rest)

  pub trail_inside : (trail : List ℕ) (p q : ℕ) → IsTrail edges d.predecessors p trail q → All (λ (e : ℕ). e < length edges) trail
  trail_inside [] p q on = All-nil (λ (e : ℕ). e < length edges)
  trail_inside (e ∷ trail) p q (at, on) = All-cons (λ (f : ℕ). f < length edges) e trail (is.lowered p e at).edge (trail_inside trail (constraint_at edges e).from q on)

  pub walk_begins : (from : ℕ) → from < length d.seconds → IsWalked edges d from [] (replicate (length d.seconds) None) from
  walk_begins from lt =
      let size = length-replicate (length d.seconds) None in
      record {
        inside = lt;
        way = refl;
        size = size;
        count = omega (arith, free_all (length d.seconds));
        placed = λ p k its. let both : None ≡ Some k = sym (filled None (length d.seconds) p) ∙ its in absurd cc;
      }

  module _ (from : ℕ) (trail : List ℕ) (places : List (Option ℕ)) (point : ℕ) (walked : IsWalked edges d from trail places point) where
    -- where the point has a place already, the way leads back to it
    pub walk_closes : (k : ℕ) → predecessor places point ≡ Some k → IsClosedTrail edges d (drop k trail) point
    walk_closes k at =
        let (lt, mine) = walked.placed point k at in
        let (x, its, on) = trail_from edges d.predecessors trail k from point lt walked.way in
        let same : x ≡ point = sym (is.lowered x (slice_index trail k) its).to ∙ (is.lowered point (slice_index trail k) mine).to in
        let size = length-drop k trail in
        record { back = subst (λ (y : ℕ). IsTrail edges d.predecessors y (drop k trail) point) same on; some = omega (arith, size, lt); few = omega (arith, size, walked.count) }

    -- where it has no predecessor, the first one is not too low
    pub walk_ends : predecessor d.predecessors point ≡ None → IsTooLow d.seconds from → ⊥
    walk_ends none deep = elim (none_or_some (predecessor places point)) [
      | inr (k, at) ↦ let both : None ≡ Some (slice_index trail k) = sym none ∙ (walked.placed point k at).1 in absurd cc
      | inl unplaced ↦
          let left = free_less places point 0 (omega (arith, walked.inside, walked.size)) unplaced in
          omega (arith, ints, left, walked.count, is.few, is.root point none, trail_weighs edges d is from trail point walked.way, weight_near trail from point walked.way, deep)
    ]

    pub walk_goes_on : (e : ℕ) → predecessor d.predecessors point ≡ Some e → predecessor places point ≡ None
        → IsWalked edges d from (trail ++ e ∷ []) (set places point (Some (length trail))) (constraint_at edges e).from
    walk_goes_on e at unplaced =
        let size = length_push trail e in
        let within : point < length places = omega (arith, walked.inside, walked.size) in
        record {
          inside = (edge_inside (length d.seconds) edges e is.inside (is.lowered point e at).edge).from;
          way = trail_push edges d.predecessors trail from point e walked.way at;
          size = length-set places point (Some (length trail)) ∙ walked.size;
          count = omega (arith, size, walked.count, free_less places point (length trail) within unplaced);
          placed = λ p k its. elim (cases_eq p point) [
            | inl same ↦
                let both : Some (length trail) ≡ Some k = sym (ap (predecessor (set places point (Some (length trail)))) same ∙ get_or-set_same places point (Some (length trail)) None within) ∙ its in
                let last : length trail ≡ k = cc in
                (omega (arith, size, last), ap (predecessor d.predecessors) same ∙ at ∙ ap (λ (f : ℕ). Some f) (sym (get_or_push trail e 0 k last)))
            | inr other ↦
                let (lt, mine) = walked.placed p k (sym (get_or-set_other places point p (Some (length trail)) None other) ∙ its) in
                (omega (arith, size, lt), mine ∙ ap (λ (f : ℕ). Some f) (sym (get_or_append_left trail (e ∷ []) 0 k lt)))
          ];
        }

-- ---- its lines

joined_push : (timed : PlainTimed) (lines : List Line) (line : Line) (x y z : ℕ) → LeadFromTo timed lines x y → LeadFromTo timed (line ∷ []) y z → LeadFromTo timed (lines ++ line ∷ []) x z
joined_push timed [] line x y z same after = subst (λ p. LeadFromTo timed (line ∷ []) p z) (sym same) after
joined_push timed (first ∷ lines) line x y z (c, named, from, rest) after = (c, named, from, joined_push timed lines line c.to y z rest after)

sum_push : (timed : PlainTimed) (lines : List Line) (line : Line) → sum_of timed (lines ++ line ∷ []) ≡ sum_of timed lines +ℤ weight_in (constraint_of timed line)
sum_push timed [] line = omega (arith, ints)
sum_push timed (first ∷ lines) line = omega (arith, ints, sum_push timed lines line)

module _ (timed : PlainTimed) (edges : List Edge) (d : PlainDistances) (is : IsRelaxed edges d) (named : All (IsEdge timed) edges) where
  -- the lines of a trail, turned round, lead on to where it began, and their sum is its weight
  leads : (trail : List ℕ) (p q : ℕ) → IsTrail edges d.predecessors p trail q → LeadFromTo timed (reverse (map (edge_line edges) trail)) q p × (sum_of timed (reverse (map (edge_line edges) trail)) ≡ weight_of edges trail)
  leads [] p q same = (sym same, refl)
  leads (e ∷ trail) p q (at, on) =
      let edge = is.lowered p e at in
      let its : constraint_of timed (edge_line edges e) ≡ Some (constraint_at edges e) = (All-get_or (IsEdge timed) edges e no_edge edge.edge named).0 in
      let (joined, sum) = leads trail (constraint_at edges e).from q on in
      let lines = reverse (map (edge_line edges) trail) in
      let turned = reverse-append (edge_line edges e ∷ []) (map (edge_line edges) trail) in
      let all = joined_push timed lines (edge_line edges e) q (constraint_at edges e).from p joined (constraint_at edges e, its, refl, edge.to) in
      let weighs = ap weight_in its in (
        subst (λ (ls : List Line). LeadFromTo timed ls q p) (sym turned) all,
        ap (sum_of timed) turned ∙ omega (arith, ints, sum_push timed lines (edge_line edges e), sum, weighs),
      )

  pub closed_is_negative : (trail : List ℕ) (p : ℕ) → IsClosedTrail edges d trail p → IsNegative timed (reverse (map (edge_line edges) trail))
  closed_is_negative [] p closed = absurd (omega (arith, closed.some))
  closed_is_negative (e ∷ trail) p closed =
      let (joined, sum) = leads (e ∷ trail) p p closed.back in
      (p, joined, omega (arith, ints, sum, is.negative p e trail closed.back))
