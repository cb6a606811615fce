-- The first fault of a unit is the one with the least number.
use Rattle.std.proofs.Common.{◌≡◌, ◌≤◌, ℕ, Bool, true, false, cond, refl, sym, ap, subst, ◌∙◌, arith, Option, Some, None}
use Rattle.std.proofs.lemmas.Option.{same_Some}
use Rattle.faults.specs.declared.kind.FaultKind.{FaultKind}
use Rattle.faults.specs.declared.kind.FaultKind.TheVariants as fault
use Rattle.faults.specs.Kinds.{number_of}
use Rattle.tml_span.specs.Units.{Kind}
use Rattle.tml_tree.specs.Rules.{History, is_unknown_tag, is_unbalanced, is_misplaced, is_too_deep, is_at_fault}
use Rattle.tml_tree.specs.Judging.{first_fault}

abbrev pub first_of : Bool → Bool → Bool → Bool → Option FaultKind
first_of unknown unbalanced misplaced deep = cond unknown (Some fault.UnknownTag) (cond unbalanced (Some fault.Unbalanced) (cond misplaced (Some fault.Misplaced) (cond deep (Some fault.TooDeep) None)))

abbrev pub is_in : Bool → Bool → Bool → Bool → FaultKind → Bool
is_in unknown unbalanced misplaced deep fault.UnknownTag = unknown
is_in unknown unbalanced misplaced deep fault.Unbalanced = unbalanced
is_in unknown unbalanced misplaced deep fault.Misplaced = misplaced
is_in unknown unbalanced misplaced deep fault.TooDeep = deep
is_in unknown unbalanced misplaced deep other = false

in_is : (h : History) (k : Kind) (kind : FaultKind) → is_at_fault kind h k ≡ is_in (is_unknown_tag k) (is_unbalanced h k) (is_misplaced h k) (is_too_deep h k) kind
in_is h k fault.UnknownTag = refl
in_is h k fault.Unbalanced = refl
in_is h k fault.Misplaced = refl
in_is h k fault.TooDeep = refl
in_is h k other = refl

none_in : (kind : FaultKind) → is_in false false false false kind ≡ false
none_in fault.UnknownTag = refl
none_in fault.Unbalanced = refl
none_in fault.Misplaced = refl
none_in fault.TooDeep = refl
none_in other = refl

-- where there is none, the unit is at fault in no way
first_none : (a b m d : Bool) (kind : FaultKind) → first_of a b m d ≡ None → is_in a b m d kind ≡ false
first_none true b m d kind e = absurd cc
first_none false true m d kind e = absurd cc
first_none false false true d kind e = absurd cc
first_none false false false true kind e = absurd cc
first_none false false false false kind e = none_in kind

-- the unit is at fault in the first way
first_some : (a b m d : Bool) (kind : FaultKind) → first_of a b m d ≡ Some kind → is_in a b m d kind ≡ true
first_some true b m d kind e = subst (λ k. is_in true b m d k ≡ true) (same_Some _ _ e) refl
first_some false true m d kind e = subst (λ k. is_in false true m d k ≡ true) (same_Some _ _ e) refl
first_some false false true d kind e = subst (λ k. is_in false false true d k ≡ true) (same_Some _ _ e) refl
first_some false false false true kind e = subst (λ k. is_in false false false true k ≡ true) (same_Some _ _ e) refl
first_some false false false false kind e = absurd cc

abbrev pub least : Bool → Bool → Bool → ℕ
least a b m = cond a 4 (cond b 5 (cond m 7 8))

at_least : (a b m d : Bool) (other : FaultKind) → is_in a b m d other ≡ true → least a b m ≤ number_of other
at_least true b m d fault.UnknownTag h = omega arith
at_least true b m d fault.Unbalanced h = omega arith
at_least true b m d fault.Misplaced h = omega arith
at_least true b m d fault.TooDeep h = omega arith
at_least false true m d fault.Unbalanced h = omega arith
at_least false true m d fault.Misplaced h = omega arith
at_least false true m d fault.TooDeep h = omega arith
at_least false false true d fault.Misplaced h = omega arith
at_least false false true d fault.TooDeep h = omega arith
at_least false false false d fault.TooDeep h = omega arith
at_least a b m d other h = absurd cc

first_number : (a b m d : Bool) (kind : FaultKind) → first_of a b m d ≡ Some kind → number_of kind ≡ least a b m
first_number true b m d kind e = ap number_of (sym (same_Some _ _ e))
first_number false true m d kind e = ap number_of (sym (same_Some _ _ e))
first_number false false true d kind e = ap number_of (sym (same_Some _ _ e))
first_number false false false true kind e = ap number_of (sym (same_Some _ _ e))
first_number false false false false kind e = absurd cc

module _ (h : History) (k : Kind) where
  pub no_fault : first_fault h k ≡ None → (kind : FaultKind) → is_at_fault kind h k ≡ false
  no_fault e kind = in_is h k kind ∙ first_none (is_unknown_tag k) (is_unbalanced h k) (is_misplaced h k) (is_too_deep h k) kind e

  pub has_fault : (kind : FaultKind) → first_fault h k ≡ Some kind → is_at_fault kind h k ≡ true
  has_fault kind e = in_is h k kind ∙ first_some (is_unknown_tag k) (is_unbalanced h k) (is_misplaced h k) (is_too_deep h k) kind e

  pub is_least : (kind other : FaultKind) → first_fault h k ≡ Some kind → is_at_fault other h k ≡ true → number_of kind ≤ number_of other
  is_least kind other e o =
      let number = first_number (is_unknown_tag k) (is_unbalanced h k) (is_misplaced h k) (is_too_deep h k) kind e in
      omega (arith, number, at_least (is_unknown_tag k) (is_unbalanced h k) (is_misplaced h k) (is_too_deep h k) other (sym (in_is h k other) ∙ o))
