-- The first fault of a list. A rule is broken by an element, given the elements before it; which elements those are, and which rules, is for each phase to say.
use Rattle.std.specs.Prelude.{◌≡◌, ◌≤◌, ℕ, List, ◌∷◌, ◌++◌}

-- no element breaks a rule
abbrev pub NoneBreaks : {E R : Type 0} → (R → List E → E → Type 0) → List E → Type 0
NoneBreaks {E} {R} breaks elements = (before after : List E) (element : E) (rule : R) → elements ≡ before ++ element ∷ after → breaks rule before element → ⊥

-- At a place stands the first element that breaks a rule, and of the rules that it breaks this is the one with the least number.
pub record FirstBrokenRule {E R : Type 0} (breaks : R → List E → E → Type 0) (number : R → ℕ) (place_of : E → ℕ) (elements : List E) (place : ℕ) (rule : R) : Type 0 where
  pub before : List E
  pub element : E
  pub after : List E
  pub whole : elements ≡ before ++ element ∷ after
  pub none_before : NoneBreaks breaks before
  pub broken : breaks rule before element
  pub least : (other : R) → breaks other before element → number rule ≤ number other
  pub place_is : place ≡ place_of element

-- no two rules have one number
abbrev pub AreNumbered : {R : Type 0} → (R → ℕ) → Type 0
AreNumbered {R} number = (rule other : R) → number rule ≡ number other → rule ≡ other
