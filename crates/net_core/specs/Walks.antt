-- Walks through a net, from point to point.
use Rattle.std.specs.Prelude.{◌≡◌, ◌↔◌, ℕ, Bool, true, false, List, [], ◌∷◌, Some, slice_index_or}
use Rattle.std.specs.List.{Contains}
use Rattle.net_core.specs.declared.atom.Atom.{Atom}
use Rattle.net_core.specs.declared.step.Step.{Step}
use Rattle.net_core.specs.Atoms.{Satisfies}
use Rattle.net_core.specs.Fits.{FitsWith}
use Rattle.net_core.specs.Nets.{PlainNet}
use Rattle.net_core.specs.Relations.{Timeline}
use Rattle.net_core.specs.Steps.{GoesBy, has_strict, link_of}

-- The steps are joined from x to y, over spans, the calendar and the links of a set: the first begins at x, each begins where the one before it ended, and the last ends at y.
abbrev pub IsJoined : PlainNet → (ℕ → Type 0) → List Step → ℕ → ℕ → Type 0
IsJoined net Chosen [] x y = x ≡ y
IsJoined net Chosen (step ∷ steps) x y = (atom : Atom) × GoesBy net Chosen step atom × (atom.from ≡ x) × IsJoined net Chosen steps atom.to y

-- a walk from x to y: joined steps, one of them strict where that is asked for
abbrev pub IsWalk : PlainNet → (ℕ → Type 0) → ℕ → ℕ → Bool → List Step → Type 0
IsWalk net Chosen x y strict steps = IsJoined net Chosen steps x y × (strict ≡ true → has_strict net steps ≡ true)

abbrev pub HasWalk : PlainNet → (ℕ → Type 0) → ℕ → ℕ → Bool → Type 0
HasWalk net Chosen x y strict = (steps : List Step) × IsWalk net Chosen x y strict steps

-- a closed walk: from a point to itself, with a strict step
abbrev pub IsClosedWalk : PlainNet → (ℕ → Type 0) → List Step → Type 0
IsClosedWalk net Chosen steps = (x : ℕ) × IsWalk net Chosen x x true steps

-- one of the steps goes over this link
abbrev pub GoesOver : List Step → ℕ → Type 0
GoesOver steps k = (step : Step) × Contains steps step × (link_of step ≡ Some k)

-- the links that are kept, of those of a net
abbrev pub Kept : List Bool → ℕ → Type 0
Kept keep k = slice_index_or keep k false ≡ true

-- the law: a timeline fits with links exactly where it is in the order of each step over spans, the calendar and these links
abbrev pub StepsSayWhatFits : Type 0
StepsSayWhatFits = (net : PlainNet) (keep : List Bool) (t : Timeline)
    → FitsWith net (Kept keep) t ↔ ((step : Step) (atom : Atom) → GoesBy net (Kept keep) step atom → Satisfies t atom)
