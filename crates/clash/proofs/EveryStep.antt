-- A net has finitely many steps: they stand in one list.
use Rattle.std.proofs.Common.{◌≡◌, ℕ, zero, suc, ◌+◌, ◌*◌, ◌<◌, nat_lt, List, [], ◌∷◌, ◌++◌, length, Some, sym, subst, arith, inl, inr}
use Rattle.std.specs.List.{AllByRecursion, slice_get}
use Rattle.std.proofs.lemmas.Bool.{cases_lt, ltb-true}
use Rattle.std.proofs.lemmas.Option.{get_or_from_slice_get, option_and_then_some, slice_get_within}
use Rattle.net_core.specs.Atoms.{IsInRange, atoms_of, before}
use Rattle.net_core.specs.Nets.{IsNet, PlainNet, intervals, link_at, lower, points, upper}
use Rattle.net_core.specs.Steps.{atom_of}
use Rattle.net_core.specs.declared.atom.Atom.{Atom}
use Rattle.net_core.specs.declared.net.NetLink.{NetLink}
use Rattle.net_core.specs.declared.rels.Rel.TheVariants as rel
use Rattle.net_core.specs.declared.step.Step.{Step}
use Rattle.net_core.specs.declared.step.Step.TheVariants.{Link, Span, Calendar}
use Rattle.net_core.proofs.StepLaws.{ordered, step_in_range, tested}

-- what is listed for each number below n
each_below : (ℕ → List Step) → ℕ → List Step
each_below f zero = []
each_below f (suc n) = f n ++ each_below f n

-- the steps over the links, the spans, and the calendar
over_links : PlainNet → List Step
over_links net = each_below (λ k. each_below (λ i. Link k i ∷ []) (length (atoms_of (link_at net k).a (link_at net k).rel (link_at net k).b))) (length net.links)

over_spans : PlainNet → List Step
over_spans net = each_below (λ i. Span i ∷ []) (intervals net)

in_calendar : PlainNet → List Step
in_calendar net = each_below (λ p. each_below (λ q. Calendar p q ∷ []) (points net)) (points net)

pub every_step : PlainNet → List Step
every_step net = over_links net ++ (over_spans net ++ in_calendar net)

module _ (P : Step → Type 0) where
  all_left : (xs ys : List Step) → AllByRecursion P (xs ++ ys) → AllByRecursion P xs
  all_left [] ys all = tt
  all_left (x ∷ xs) ys all = (all.0, all_left xs ys all.1)

  all_right : (xs ys : List Step) → AllByRecursion P (xs ++ ys) → AllByRecursion P ys
  all_right [] ys all = all
  all_right (x ∷ xs) ys all = all_right xs ys all.1

  -- what is true of all that is listed is true of what is listed for one number
  at_number : (f : ℕ → List Step) (n k : ℕ) → k < n → AllByRecursion P (each_below f n) → AllByRecursion P (f k)
  unfolding each_below
  at_number f zero k lt all = absurd (omega arith)
  at_number f (suc n) k lt all = elim (cases_lt k n) [
    | inl less ↦ at_number f n k less (all_right (f n) (each_below f n) all)
    | inr last ↦ let same : n ≡ k = omega arith in subst (λ (m : ℕ). AllByRecursion P (f m)) same (all_left (f n) (each_below f n) all)
  ]

  -- what is true of every step is true of each that goes by an order
  pub of_every_step : (net : PlainNet) (step : Step) (a : Atom) → IsNet net → atom_of net step ≡ Some a → AllByRecursion P (every_step net) → P step
  unfolding every_step over_links over_spans in_calendar
  of_every_step net (Link k i) a is e all =
      let count = λ (k : ℕ). length (atoms_of (link_at net k).a (link_at net k).rel (link_at net k).b) in
      option_and_then_some (λ (l : NetLink). slice_get (atoms_of l.a l.rel l.b) i) (slice_get net.links k) a e (λ l at here.
      let same = get_or_from_slice_get net.links k l (record { a = 0; rel = rel.Before; b = 0 }) at in
      let within : i < count k = subst (λ (x : NetLink). i < length (atoms_of x.a x.rel x.b)) (sym same) (slice_get_within (atoms_of l.a l.rel l.b) i a here) in
      (at_number (λ j. Link k j ∷ []) (count k) i within
      (at_number (λ m. each_below (λ j. Link m j ∷ []) (count m)) (length net.links) k (slice_get_within net.links k l at) (all_left (over_links net) (over_spans net ++ in_calendar net) all))).0)
  of_every_step net (Span i) a is e all =
      let within = ltb-true i (intervals net) (tested (nat_lt i (intervals net)) (before (2 * i) (2 * i + 1)) a e).0 in
      (at_number (λ j. Span j ∷ []) (intervals net) i within
      (all_left (over_spans net) (in_calendar net) (all_right (over_links net) (over_spans net ++ in_calendar net) all))).0
  of_every_step net (Calendar p q) a is e all =
      let ends = ordered (upper net p) (lower net q) p q a e in
      let range = subst (IsInRange (points net)) (sym ends.5) (step_in_range net (Calendar p q) a is e) in
      (at_number (λ j. Calendar p j ∷ []) (points net) q range.1
      (at_number (λ m. each_below (λ j. Calendar m j ∷ []) (points net)) (points net) p range.0
      (all_right (over_spans net) (in_calendar net) (all_right (over_links net) (over_spans net ++ in_calendar net) all)))).0
