-- Numbers and constraints that are there.
use Rattle.std.proofs.Common.{◌≡◌, ℕ, ◌<◌, ◌≤◌, Bool, true, false, cond, Option, Some, None, option_map, inl, inr, refl, sym, subst, ◌∙◌, arith}
use Rattle.std.specs.Prelude.{IfSome}
use Rattle.std.proofs.lemmas.Bool.{cases_lt}
use Rattle.seconds_core.specs.declared.line.Constraint.{Constraint}

-- what an option is made of, where it is there
pub made : {X Y : Type 0} (f : X → Y) (o : Option X) (y : Y) → option_map f o ≡ Some y → (x : X) × (o ≡ Some x) × (f x ≡ y)
made f (Some x) y e = (x, refl, cc)
made f None y e = absurd cc

-- what holds where there is a number
pub there : {X : Type 0} (P : X → Type 0) (o : Option X) (x : X) → IfSome o P → o ≡ Some x → P x
there P (Some y) x p e = let same : y ≡ x = cc in subst P same p
there P None x p e = absurd cc

-- and what holds of each number that is there
pub each : {X : Type 0} (P : X → Type 0) (o : Option X) → ((x : X) → o ≡ Some x → P x) → IfSome o P
each P (Some x) all = all x refl
each P None all = tt

-- a constraint that is there where a test is passed
pub tested : (b : Bool) (a c : Constraint) → cond b (Some a) None ≡ Some c → (b ≡ true) × (a ≡ c)
tested true a c e = (refl, cc)
tested false a c e = absurd cc

-- a number that is there past the end of what there is would be no number
pub within : {X : Type 0} (o : Option X) (x : X) (p n : ℕ) → o ≡ Some x → (n ≤ p → o ≡ None) → p < n
within o x p n there past = elim (cases_lt p n) [
  | inl lt ↦ lt
  | inr ge ↦ let none : None ≡ Some x = sym (past (omega (arith, ge))) ∙ there in absurd cc
]
