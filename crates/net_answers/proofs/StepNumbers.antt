-- The numbers of steps can stand in a text.
use Rattle.std.proofs.Common.{◌≡◌, ◌==◌, ℕ, ◌+◌, ◌*◌, ◌%◌, nat_lt, List, [], ◌∷◌, Some, All, refl, arith}
use Rattle.std.specs.List.{slice_get}
use Rattle.std.proofs.lemmas.Bool.{ltb-true}
use Rattle.std.proofs.lemmas.List.Elements.{All-cons, All-nil}
use Rattle.std.proofs.lemmas.Option.{option_and_then_some, slice_get_within}
use Rattle.net_core.specs.Atoms.{atoms_of, before}
use Rattle.net_core.specs.Bounds.{lower_of, upper_of}
use Rattle.net_core.specs.Fits.{EveryLink}
use Rattle.net_core.specs.Nets.{IsNet, PlainNet, intervals, lower, upper}
use Rattle.net_core.specs.Steps.{atom_of}
use Rattle.net_core.specs.Walks.{IsJoined}
use Rattle.net_core.specs.declared.atom.Atom.{Atom}
use Rattle.net_core.specs.declared.net.NetLink.{NetLink}
use Rattle.net_core.specs.declared.step.Step.{Step}
use Rattle.net_core.specs.declared.step.Step.TheVariants.{Link, Span, Calendar}
use Rattle.net_core.proofs.StepLaws.{number_within, ordered, tested}
use Rattle.evidence_format.specs.Evidence.{HasNumbers}
use Rattle.net_answers.proofs.LineSizes.{few_orders}

step_numbers : (net : PlainNet) (step : Step) (a : Atom) → IsNet net → atom_of net step ≡ Some a → HasNumbers step
step_numbers net (Link k i) a is e = option_and_then_some (λ (l : NetLink). slice_get (atoms_of l.a l.rel l.b) i) (slice_get net.links k) a e (λ l at here.
    let few_links = is.few_links in
    let lk = slice_get_within net.links k l at in
    let li = slice_get_within (atoms_of l.a l.rel l.b) i a here in
    let few = few_orders l.rel l.a l.b in
    (omega (arith, lk, few_links), omega (arith, li, few)))
step_numbers net (Span i) a is e =
    let both = tested (nat_lt i (intervals net)) (before (2 * i) (2 * i + 1)) a e in
    let lt = ltb-true i (intervals net) both.0 in
    omega (arith, lt, is.few_intervals)
step_numbers net (Calendar p q) a is e =
    let o = ordered (upper net p) (lower net q) p q a e in
    let lp = number_within net p (λ b. upper_of b (p % 2 == 1)) o.0 refl o.2 in
    let lq = number_within net q (λ b. lower_of b (q % 2 == 1)) o.1 refl o.3 in
    (omega (arith, lp, is.few_intervals), omega (arith, lq, is.few_intervals))

-- the steps of a walk have numbers that a text can have
pub walk_numbers : (net : PlainNet) (steps : List Step) (x y : ℕ) → IsNet net → IsJoined net EveryLink steps x y → All HasNumbers steps
walk_numbers net [] x y is joined = All-nil HasNumbers
walk_numbers net (step ∷ steps) x y is joined = All-cons HasNumbers step steps (step_numbers net step joined.0 is joined.1.0) (walk_numbers net steps joined.0.to y is joined.3)
