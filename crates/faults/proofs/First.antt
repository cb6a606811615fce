-- A list has one first fault, or none where no element breaks a rule.
use Rattle.std.proofs.Common.{◌≡◌, ◌≤◌, ℕ, List, [], ◌∷◌, ◌++◌, refl, sym, ap, subst, ◌∙◌, append_assoc, inl, inr, arith, All}
use Rattle.std.proofs.lemmas.List.Elements.{All-nil, All-cons, All-append}
use Rattle.faults.specs.First.{AreNumbered, FirstBrokenRule, NoneBreaks}
use Rattle.named.proofs.Cuts.{inside, none_cut, two_cuts, last_or_before}

-- ---- no element breaks a rule

pub none_breaks_nil : {E R : Type 0} (breaks : R → List E → E → Type 0) → NoneBreaks breaks []
none_breaks_nil breaks = λ before after element rule e b. none_cut before after element e

-- one element more, which breaks none
pub none_breaks_more : {E R : Type 0} (breaks : R → List E → E → Type 0) (xs : List E) (x : E) → NoneBreaks breaks xs → ((rule : R) → breaks rule xs x → ⊥) → NoneBreaks breaks (xs ++ x ∷ [])
none_breaks_more {E} {R} breaks xs x none here = λ before after element rule e b. elim (last_or_before xs before after x element e) [
  | inl k ↦ here rule (subst (λ (p : List E × E). breaks rule p.0 p.1) (λ i. (sym k.0 i, sym k.1 i)) b)
  | inr k ↦ none before k.0 element rule k.1 b
]

-- of a list in which no element breaks a rule the prefixes are such lists
pub none_breaks_prefix : {E R : Type 0} (breaks : R → List E → E → Type 0) (xs ys : List E) → NoneBreaks breaks (xs ++ ys) → NoneBreaks breaks xs
none_breaks_prefix breaks xs ys none = λ before after element rule e b. none before (after ++ ys) element rule (rw e (append_assoc before (element ∷ after) ys)) b

-- ---- one fault

module _ {E R : Type 0} (breaks : R → List E → E → Type 0) (number : R → ℕ) (place_of : E → ℕ) where
  -- a list in which no element breaks a rule has no fault
  pub none_or_fault : (elements : List E) (place : ℕ) (rule : R) → NoneBreaks breaks elements → FirstBrokenRule breaks number place_of elements place rule → ⊥
  none_or_fault elements place rule none f = none f.before f.after f.element rule f.whole f.broken

  same_fault : (elements : List E) (place other : ℕ) (r s : R) (f : FirstBrokenRule breaks number place_of elements place r) (g : FirstBrokenRule breaks number place_of elements other s) → AreNumbered number
      → f.before ≡ g.before → f.element ≡ g.element → (place ≡ other) × (r ≡ s)
  same_fault elements place other r s f g numbered e k =
      let theirs = subst (λ (p : List E × E). breaks s p.0 p.1) (λ i. (sym e i, sym k i)) g.broken in
      let ours = subst (λ (p : List E × E). breaks r p.0 p.1) (λ i. (e i, k i)) f.broken in
      (f.place_is ∙ ap place_of k ∙ sym g.place_is, numbered r s (omega (arith, f.least s theirs, g.least r ours)))

  -- and there is at most one first fault
  pub one_fault : AreNumbered number → (elements : List E) (place other : ℕ) (r s : R) → FirstBrokenRule breaks number place_of elements place r → FirstBrokenRule breaks number place_of elements other s → (place ≡ other) × (r ≡ s)
  one_fault numbered elements place other r s f g = elim (two_cuts f.before g.before f.after g.after f.element g.element (sym f.whole ∙ g.whole)) [
    | inl k ↦ same_fault elements place other r s f g numbered k.0 k.1
    | inr (inl k) ↦ absurd (g.none_before f.before k.0 f.element r k.1 f.broken)
    | inr (inr k) ↦ absurd (f.none_before g.before k.0 g.element s k.1 g.broken)
  ]

  -- the fault of one element alone
  pub fault_of_one : (element : E) (rule : R) → breaks rule [] element → ((other : R) → breaks other [] element → number rule ≤ number other) → FirstBrokenRule breaks number place_of (element ∷ []) (place_of element) rule
  fault_of_one element rule broken least = record {
    before = [];
    element = element;
    after = [];
    whole = refl;
    none_before = none_breaks_nil breaks;
    broken = broken;
    least = least;
    place_is = refl;
  }

-- ---- rules that do not ask for the elements before

module _ {E R : Type 0} (breaks : R → E → Type 0) where
  abbrev pub Sound : E → Type 0
  Sound element = (rule : R) → breaks rule element → ⊥

  pub none_of_all : (xs : List E) → All Sound xs → NoneBreaks (λ (rule : R) (before : List E). breaks rule) xs
  none_of_all xs h = λ before after element rule e b. inside Sound before after element (subst (All Sound) e h) rule b

  pub all_of_none : (xs : List E) → NoneBreaks (λ (rule : R) (before : List E). breaks rule) xs → All Sound xs
  all_of_none [] h = All-nil Sound
  all_of_none (x ∷ xs) h = All-cons Sound x xs (λ rule b. h [] xs x rule refl b) (all_of_none xs (λ before after element rule e b. h (x ∷ before) after element rule (ap (λ (ys : List E). x ∷ ys) e) b))

  -- the first fault of some elements is that of more, where those before them are sound
  pub fault_within : (number : R → ℕ) (place_of : E → ℕ) (before xs after : List E) (place : ℕ) (rule : R) → All Sound before → FirstBrokenRule (λ (r : R) (b : List E). breaks r) number place_of xs place rule
      → FirstBrokenRule (λ (r : R) (b : List E). breaks r) number place_of (before ++ xs ++ after) place rule
  fault_within number place_of before xs after place rule sound f = record {
    before = before ++ f.before;
    element = f.element;
    after = f.after ++ after;
    whole = ap (λ (ys : List E). before ++ ys ++ after) f.whole ∙ simp append_assoc;
    none_before = none_of_all (before ++ f.before) (All-append Sound before f.before sound (all_of_none f.before f.none_before));
    broken = f.broken;
    least = f.least;
    place_is = f.place_is;
  }
