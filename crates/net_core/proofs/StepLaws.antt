-- Steps, and the timelines that fit: those that are in the orders of all steps.
use Rattle.std.proofs.Common.{◌≡◌, ◌==◌, ℕ, ◌+◌, ◌*◌, ◌/◌, ◌%◌, ◌<◌, Bool, true, false, cond, int_le, int_lt, nat_lt, ℤ, ◌<ℤ◌, List, length, get_or, Option, Some, None, refl, sym, ap, subst, ◌∙◌, arith, inl, inr}
use Rattle.std.specs.List.{All, slice_get}
use Rattle.std.proofs.lemmas.Bool.{cases_lt, lt-ltb, ltb-true}
use Rattle.std.proofs.lemmas.Int.{ints}
use Rattle.std.proofs.lemmas.List.{get_or_past}
use Rattle.std.proofs.lemmas.List.Elements.{All-from_recursion, All-get_or, All-from_get_or, recursion_from_All}
use Rattle.std.proofs.lemmas.Option.{get_or_from_slice_get, option_and_then_some, slice_get-get_or, slice_get_within}
use Rattle.net_core.specs.Atoms.{IsInRange, Satisfies, atoms_of, before, no_later}
use Rattle.net_core.specs.Bounds.{lower_of, upper_of}
use Rattle.net_core.specs.Fits.{FitsWith, FollowsNumbers}
use Rattle.net_core.specs.Nets.{IsNet, PlainNet, bounds_at, intervals, link_at, lower, points, upper}
use Rattle.net_core.specs.Relations.{Relates, Timeline}
use Rattle.net_core.specs.Steps.{GoesBy, atom_of, calendar_order, link_of}
use Rattle.net_core.specs.declared.atom.Atom.{Atom}
use Rattle.net_core.specs.declared.bounds.Bounds.{Bounds}
use Rattle.net_core.specs.declared.bounds.Bounds.TheVariants.{Free}
use Rattle.net_core.specs.declared.net.NetLink.{NetLink}
use Rattle.net_core.specs.declared.rels.Rel.TheVariants as rel
use Rattle.net_core.specs.declared.step.Step.{Step}
use Rattle.net_core.specs.declared.step.Step.TheVariants.{Link, Span, Calendar}
use Rattle.net_core.proofs.AtomLaws.{atoms_in_range, atoms_say_the_relation}

-- what is true of all of a list is true of the one at k
pub one_of_all : {X : Type 0} (P : X → Type 0) (xs : List X) (k : ℕ) (x : X) → All P xs → slice_get xs k ≡ Some x → P x
one_of_all P xs k x all e = subst P (get_or_from_slice_get xs k x x e) (All-get_or P xs k x (slice_get_within xs k x e) all)

-- the order of a step, where a test is passed
pub tested : (b : Bool) (a c : Atom) → cond b (Some a) None ≡ Some c → (b ≡ true) × (a ≡ c)
tested true a c e = (refl, cc)
tested false a c e = absurd cc

-- a point of the calendar is a point of the net
pub number_within : (net : PlainNet) (p : ℕ) (number : Bounds → Option ℤ) (u : ℤ) → number Free ≡ None → number (bounds_at net (p / 2)) ≡ Some u → p < points net
number_within net p number u none e = elim (cases_lt (p / 2) (length net.bounds)) [
  | inl lt ↦ omega arith
  | inr ge ↦ let free = get_or_past net.bounds (p / 2) Free (omega arith) in let is : None ≡ Some u = sym none ∙ ap number (sym free) ∙ e in absurd cc
]

-- the numbers of two points that the calendar orders
pub ordered : (u l : Option ℤ) (p q : ℕ) (a : Atom) → calendar_order u l p q ≡ Some a → (x : ℤ) × (y : ℤ) × (u ≡ Some x) × (l ≡ Some y) × (int_le x y ≡ true) × (record { from = p; to = q; strict = int_lt x y } ≡ a)
ordered (Some x) (Some y) p q a e = let both = tested (int_le x y) (record { from = p; to = q; strict = int_lt x y }) a e in (x, y, refl, refl, both.0, both.1)
ordered (Some x) None p q a e = absurd cc
ordered None l p q a e = absurd cc

same_number : (x y : ℤ) → int_le x y ≡ true → int_lt x y ≡ false → x ≡ y
same_number x y le lt = grind (arith, ints)

less_number : (x y : ℤ) → int_lt x y ≡ true → x <ℤ y
less_number x y e = grind (arith, ints)

-- what the numbers say of two points, the order says
in_order : (x y : ℤ) (p q : ℕ) (t : Timeline) (strict : Bool) → int_le x y ≡ true → int_lt x y ≡ strict → FollowsNumbers (Some x) (Some y) (t p) (t q) → Satisfies t (record { from = p; to = q; strict = strict })
in_order x y p q t true le lt follows = follows.0 (less_number x y lt)
in_order x y p q t false le lt follows = follows.1 (same_number x y le lt)

-- a timeline that fits is in the order of each step
pub step_kept : (net : PlainNet) (Chosen : ℕ → Type 0) (t : Timeline) (step : Step) (a : Atom) → FitsWith net Chosen t → GoesBy net Chosen step a → Satisfies t a
step_kept net Chosen t (Link k i) a fits goes =
    option_and_then_some (λ (l : NetLink). slice_get (atoms_of l.a l.rel l.b) i) (slice_get net.links k) a goes.0 (λ l at e.
    let same = get_or_from_slice_get net.links k l (record { a = 0; rel = rel.Before; b = 0 }) at in
    let holds = fits.links k (slice_get_within net.links k l at) goes.1 in
    one_of_all (Satisfies t) (atoms_of l.a l.rel l.b) i a (All-from_recursion (Satisfies t) (atoms_of l.a l.rel l.b) ((atoms_say_the_relation t l.rel l.a l.b).0 (subst (λ (x : NetLink). Relates t x.a x.rel x.b) same holds))) e)
step_kept net Chosen t (Span i) a fits goes =
    let both = tested (nat_lt i (intervals net)) (before (2 * i) (2 * i + 1)) a goes.0 in
    subst (Satisfies t) both.1 (fits.order i (ltb-true i (intervals net) both.0))
step_kept net Chosen t (Calendar p q) a fits goes =
    let o = ordered (upper net p) (lower net q) p q a goes.0 in
    let follows = fits.calendar p q (number_within net p (λ b. upper_of b (p % 2 == 1)) o.0 refl o.2) (number_within net q (λ b. lower_of b (q % 2 == 1)) o.1 refl o.3) in
    subst (Satisfies t) o.5 (in_order o.0 o.1 p q t (int_lt o.0 o.1) o.4 refl
    (subst (λ (l : Option ℤ). FollowsNumbers (Some o.0) l (t p) (t q)) o.3 (subst (λ (u : Option ℤ). FollowsNumbers u (lower net q) (t p) (t q)) o.2 follows)))

-- numbers of two points, where they are in the order that the calendar gives
numbers_kept : (u l : Option ℤ) (p q : ℕ) (t : Timeline) → ((a : Atom) → calendar_order u l p q ≡ Some a → Satisfies t a) → FollowsNumbers u l (t p) (t q)
numbers_kept (Some x) (Some y) p q t kept = (
  λ lt.
      let le : int_le x y ≡ true = grind (arith, ints) in
      let less : int_lt x y ≡ true = grind (arith, ints) in
      kept (before p q) (rw (le, less) refl),
  λ e.
      let le : int_le x y ≡ true = grind (arith, ints) in
      let less : int_lt x y ≡ false = grind (arith, ints) in
      kept (no_later p q) (rw (le, less) refl),
)
numbers_kept (Some x) None p q t kept = tt
numbers_kept None l p q t kept = tt

-- a timeline that is in the order of each step fits
pub fits_from_steps : (net : PlainNet) (Chosen : ℕ → Type 0) (t : Timeline) → ((step : Step) (a : Atom) → GoesBy net Chosen step a → Satisfies t a) → FitsWith net Chosen t
fits_from_steps net Chosen t kept = record {
  order = λ i lt. kept (Span i) (before (2 * i) (2 * i + 1)) (let less = lt-ltb i (intervals net) lt in rw less refl, tt);
  links = λ k lt chosen.
      let l = link_at net k in
      let at : slice_get net.links k ≡ Some l = slice_get-get_or net.links k (record { a = 0; rel = rel.Before; b = 0 }) lt in
      (atoms_say_the_relation t l.rel l.a l.b).1 (recursion_from_All (Satisfies t) (atoms_of l.a l.rel l.b)
      (All-from_get_or (Satisfies t) (atoms_of l.a l.rel l.b) (before 0 0) (λ i li.
      kept (Link k i) (get_or (atoms_of l.a l.rel l.b) i (before 0 0)) (rw at (slice_get-get_or (atoms_of l.a l.rel l.b) i (before 0 0) li), chosen))));
  calendar = λ p q lp lq. numbers_kept (upper net p) (lower net q) p q t (λ a e. kept (Calendar p q) a (e, tt));
}

-- a timeline that fits with links fits with fewer of them
pub fits_fewer : (net : PlainNet) (Chosen Fewer : ℕ → Type 0) (t : Timeline) → ((k : ℕ) → k < length net.links → Fewer k → Chosen k) → FitsWith net Chosen t → FitsWith net Fewer t
fits_fewer net Chosen Fewer t fewer fits = record { order = fits.order; links = λ k lt chosen. fits.links k lt (fewer k lt chosen); calendar = fits.calendar }

-- the link of a step that goes by an order is one of the net
pub link_within : (net : PlainNet) (step : Step) (a : Atom) (k : ℕ) → atom_of net step ≡ Some a → link_of step ≡ Some k → k < length net.links
link_within net (Link j i) a k e is =
    let same : j ≡ k = cc in
    subst (λ (n : ℕ). n < length net.links) same
    (option_and_then_some (λ (l : NetLink). slice_get (atoms_of l.a l.rel l.b) i) (slice_get net.links j) a e (λ l at here. slice_get_within net.links j l at))
link_within net (Span i) a k e is = absurd cc
link_within net (Calendar p q) a k e is = absurd cc

-- the points of a step are points of the net
pub step_in_range : (net : PlainNet) (step : Step) (a : Atom) → IsNet net → atom_of net step ≡ Some a → IsInRange (points net) a
step_in_range net (Link k i) a is e =
    option_and_then_some (λ (l : NetLink). slice_get (atoms_of l.a l.rel l.b) i) (slice_get net.links k) a e (λ l at here.
    let ends = one_of_all (λ (x : NetLink). (x.a < length net.bounds) × (x.b < length net.bounds)) net.links k l is.ends at in
    one_of_all (IsInRange (points net)) (atoms_of l.a l.rel l.b) i a (All-from_recursion (IsInRange (points net)) (atoms_of l.a l.rel l.b) (atoms_in_range (intervals net) l.rel l.a l.b ends.0 ends.1)) here)
step_in_range net (Span i) a is e =
    let both = tested (nat_lt i (intervals net)) (before (2 * i) (2 * i + 1)) a e in
    let lt = ltb-true i (intervals net) both.0 in
    subst (IsInRange (points net)) both.1 (omega arith, omega arith)
step_in_range net (Calendar p q) a is e =
    let o = ordered (upper net p) (lower net q) p q a e in
    subst (IsInRange (points net)) o.5 (number_within net p (λ b. upper_of b (p % 2 == 1)) o.0 refl o.2, number_within net q (λ b. lower_of b (q % 2 == 1)) o.1 refl o.3)
