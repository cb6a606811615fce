-- The relaxation of an edge: what is kept, and that it ends.
use Rattle.std.proofs.Common.{◌≡◌, ◌⊎◌, ℕ, zero, suc, ◌<◌, ◌≤◌, ℤ, pos, negsuc, neg_ℤ, ◌+ℤ◌, ◌<ℤ◌, ◌≤ℤ◌, List, [], ◌∷◌, length, replicate, set, slice_index_or, Some, None, inl, inr, refl, sym, ap, subst, ◌∙◌, arith}
use Rattle.std.proofs.lemmas.Bool.{cases_eq}
use Rattle.std.proofs.lemmas.Int.{ints}
use Rattle.std.proofs.lemmas.List.{get_or-set_other, get_or-set_same, length-replicate, length-set}
use Rattle.std.proofs.lemmas.List.Elements.{All-get_or, All-replicate, All-set}
use Rattle.seconds_core.specs.Constraints.{at_most}
use Rattle.seconds_core.specs.Placed.{second_at}
use Rattle.seconds_core.specs.declared.line.Constraint.{Constraint}
use Rattle.seconds_core.specs.declared.line.Line.TheVariants.{Span}
use Rattle.seconds_search.specs.declared.edges.Edge.{Edge}
use Rattle.seconds_search.specs.Edges.{AreInside, IsEdgeInside, edge_at}
use Rattle.seconds_search.specs.Relaxation.{IsNear, IsPredecessor, IsRelaxed, IsTrail, PlainDistances, constraint_at, height, lowest, max_rounds, predecessor, total, weight_of}

abbrev pub no_edge : Edge
no_edge = record { line = Span 0; constraint = at_most 0 0 (pos 0) }

pub edge_inside : (n : ℕ) (edges : List Edge) (e : ℕ) → AreInside n edges → e < length edges → IsEdgeInside n (edge_at edges e)
edge_inside n edges e inside lt = All-get_or (IsEdgeInside n) edges e no_edge lt inside

-- ---- the beginning

pub filled : {X : Type 0} (x : X) (n p : ℕ) → slice_index_or (replicate n x) p x ≡ x
filled x zero p = refl
filled x (suc n) zero = refl
filled x (suc n) (suc p) = filled x n p

abbrev pub at_zero : ℕ → PlainDistances
at_zero n = record { seconds = replicate n (pos 0); predecessors = replicate n None }

no_predecessor : (n p e : ℕ) → predecessor (replicate n None) p ≡ Some e → ⊥
no_predecessor n p e at = let both : None ≡ Some e = sym (filled None n p) ∙ at in absurd cc

pub relaxed_at_zero : (edges : List Edge) (n : ℕ) → n ≤ max_rounds → AreInside n edges → IsRelaxed edges (at_zero n)
relaxed_at_zero edges n few inside =
    let size : length (at_zero n).seconds ≡ n = length-replicate n (pos 0) in
    record {
      size = length-replicate n None ∙ sym size;
      few = omega (arith, few, size);
      inside = subst (λ (m : ℕ). AreInside m edges) (sym size) inside;
      near = All-replicate IsNear n (pos 0) (omega (arith, ints), omega (arith, ints));
      root = λ p none. filled (pos 0) n p;
      lowered = λ p e at. absurd (no_predecessor n p e at);
      negative = λ p e trail on. absurd (no_predecessor n p e on.0);
    }

-- ---- one edge

-- distances along a trail differ by its weight at least
pub trail_weighs : (edges : List Edge) (d : PlainDistances) → IsRelaxed edges d → (p : ℕ) (trail : List ℕ) (q : ℕ) → IsTrail edges d.predecessors p trail q → (second_at d.seconds q +ℤ weight_of edges trail) ≤ℤ second_at d.seconds p
trail_weighs edges d is p [] q same = let e = ap (second_at d.seconds) same in omega (arith, ints, e)
trail_weighs edges d is p (e ∷ trail) q (at, on) =
    let rest = trail_weighs edges d is (constraint_at edges e).from trail q on in
    let here = (is.lowered p e at).tight in
    omega (arith, ints, rest, here)

module _ (edges : List Edge) (d : PlainDistances) (is : IsRelaxed edges d) (e : ℕ) (lt : e < length edges) (s : ℤ)
    (led : s ≡ second_at d.seconds (constraint_at edges e).from +ℤ (constraint_at edges e).weight)
    (lower : s <ℤ second_at d.seconds (constraint_at edges e).to)
    (low : neg_ℤ (pos lowest) ≤ℤ s) where
  abbrev c : Constraint
  c = constraint_at edges e

  abbrev pub relaxed : PlainDistances
  relaxed = record { seconds = set d.seconds c.to s; predecessors = set d.predecessors c.to (Some e) }

  inside : IsEdgeInside (length d.seconds) (edge_at edges e)
  inside = edge_inside (length d.seconds) edges e is.inside lt

  second_here : (p : ℕ) → p ≡ c.to → second_at relaxed.seconds p ≡ s
  second_here p same = ap (second_at relaxed.seconds) same ∙ get_or-set_same d.seconds c.to s (pos 0) inside.to

  second_there : (p : ℕ) → (p ≡ c.to → ⊥) → second_at relaxed.seconds p ≡ second_at d.seconds p
  second_there p other = get_or-set_other d.seconds c.to p s (pos 0) other

  edge_here : (p : ℕ) → p ≡ c.to → predecessor relaxed.predecessors p ≡ Some e
  edge_here p same = ap (predecessor relaxed.predecessors) same ∙ get_or-set_same d.predecessors c.to (Some e) None (omega (arith, inside.to, is.size))

  edge_there : (p : ℕ) → (p ≡ c.to → ⊥) → predecessor relaxed.predecessors p ≡ predecessor d.predecessors p
  edge_there p other = get_or-set_other d.predecessors c.to p (Some e) None other

  no_further : (p : ℕ) → second_at relaxed.seconds p ≤ℤ second_at d.seconds p
  no_further p = elim (cases_eq p c.to) [
    | inl same ↦ let was = ap (second_at d.seconds) same in omega (arith, ints, second_here p same, was, lower)
    | inr other ↦ omega (arith, ints, second_there p other)
  ]

  lowered_now : (p f : ℕ) → predecessor relaxed.predecessors p ≡ Some f → IsPredecessor edges relaxed.seconds p f
  lowered_now p f at = elim (cases_eq p c.to) [
    | inl same ↦
        let both : Some e ≡ Some f = sym (edge_here p same) ∙ at in
        let this : e ≡ f = cc in
        subst (IsPredecessor edges relaxed.seconds p) this (record { edge = lt; to = sym same; tight = omega (arith, ints, second_here p same, led, no_further c.from) })
    | inr other ↦
        let was = is.lowered p f (sym (edge_there p other) ∙ at) in
        record { edge = was.edge; to = was.to; tight = omega (arith, ints, second_there p other, was.tight, no_further (constraint_at edges f).from) }
  ]

  -- a trail goes by earlier predecessors to where the edge leads, then by the edge, and then on
  record Splits (p : ℕ) (trail : List ℕ) (q : ℕ) : Type 0 where
    front : List ℕ
    rest : List ℕ
    before : IsTrail edges d.predecessors p front c.to
    after : IsTrail edges relaxed.predecessors c.from rest q
    shorter : length rest < length trail
    weight : weight_of edges trail ≡ weight_of edges front +ℤ (c.weight +ℤ weight_of edges rest)

  split : (trail : List ℕ) (p q : ℕ) → IsTrail edges relaxed.predecessors p trail q → IsTrail edges d.predecessors p trail q ⊎ Splits p trail q
  split [] p q same = inl same
  split (f ∷ trail) p q (at, on) = elim (cases_eq p c.to) [
    | inl same ↦
        let both : Some f ≡ Some e = sym at ∙ edge_here p same in
        let this : f ≡ e = cc in
        let weighs = ap (λ (g : ℕ). (constraint_at edges g).weight) this in
        inr (record { front = []; rest = trail; before = same; after = subst (λ (g : ℕ). IsTrail edges relaxed.predecessors (constraint_at edges g).from trail q) this on; shorter = omega arith; weight = omega (arith, ints, weighs) })
    | inr other ↦ elim (split trail (constraint_at edges f).from q on) [
      | inl old ↦ inl (sym (edge_there p other) ∙ at, old)
      | inr parts ↦ inr (record { front = f ∷ parts.front; rest = parts.rest; before = (sym (edge_there p other) ∙ at, parts.before); after = parts.after; shorter = omega (arith, parts.shorter); weight = omega (arith, ints, parts.weight) })
    ]
  ]

  -- a trail on from the edge, and then back by earlier predecessors to where the edge leads, is negative with the edge
  closing : (n p : ℕ) (rest front : List ℕ) → length rest < n → IsTrail edges relaxed.predecessors c.from rest p → IsTrail edges d.predecessors p front c.to → (c.weight +ℤ (weight_of edges rest +ℤ weight_of edges front)) <ℤ pos 0
  closing zero p rest front short on back = absurd (omega (arith, short))
  closing (suc n) p rest front short on back = elim (split rest c.from p on) [
    | inl old ↦ omega (arith, ints, trail_weighs edges d is c.from rest p old, trail_weighs edges d is p front c.to back, led, lower)
    | inr parts ↦
        let closed = trail_weighs edges d is c.from parts.front c.to parts.before in
        let others = closing n p parts.rest front (omega (arith, short, parts.shorter)) parts.after back in
        omega (arith, ints, closed, others, parts.weight, led, lower)
  ]

  negative_now : (p f : ℕ) (trail : List ℕ) → IsTrail edges relaxed.predecessors p (f ∷ trail) p → weight_of edges (f ∷ trail) <ℤ pos 0
  negative_now p f trail on = elim (split (f ∷ trail) p p on) [
    | inl old ↦ is.negative p f trail old
    | inr parts ↦ omega (arith, ints, closing (suc (length parts.rest)) p parts.rest parts.front (omega arith) parts.after parts.before, parts.weight)
  ]

  pub stays_relaxed : IsRelaxed edges relaxed
  stays_relaxed =
      let size = length-set d.seconds c.to s in
      let was : IsNear (second_at d.seconds c.to) = All-get_or IsNear d.seconds c.to (pos 0) inside.to is.near in
      record {
        size = length-set d.predecessors c.to (Some e) ∙ is.size ∙ sym size;
        few = omega (arith, is.few, size);
        inside = subst (λ (n : ℕ). AreInside n edges) (sym size) is.inside;
        near = All-set IsNear d.seconds c.to s (low, omega (arith, ints, lower, was.1)) is.near;
        root = λ p none. elim (cases_eq p c.to) [
          | inl same ↦ let both : Some e ≡ None = sym (edge_here p same) ∙ none in absurd cc
          | inr other ↦ second_there p other ∙ is.root p (sym (edge_there p other) ∙ none)
        ];
        lowered = lowered_now;
        negative = negative_now;
      }

-- ---- the end

height_less : (s t : ℤ) → neg_ℤ (pos lowest) ≤ℤ s → s <ℤ t → height s < height t
height_less (pos m) (pos n) low less = omega (arith, ints, less)
height_less (pos m) (negsuc n) low less = absurd (omega (arith, ints, less))
height_less (negsuc m) (pos n) low less = omega (arith, ints, low)
height_less (negsuc m) (negsuc n) low less = omega (arith, ints, low, less)

pub total_less : (seconds : List ℤ) (p : ℕ) (s : ℤ) → p < length seconds → neg_ℤ (pos lowest) ≤ℤ s → s <ℤ second_at seconds p → total (set seconds p s) < total seconds
total_less [] p s lt low less = absurd (omega (arith, lt))
total_less (t ∷ seconds) zero s lt low less = omega (arith, height_less s t low less)
total_less (t ∷ seconds) (suc p) s lt low less = omega (arith, total_less seconds p s (omega (arith, lt)) low less)
