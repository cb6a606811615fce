-- The first places at which rules are broken, and the fault that they make.
use Rattle.std.proofs.Common.{◌≡◌, ◌+◌, ◌<◌, ◌≤◌, ◌==◌, ◌&&◌, ℕ, Bool, true, false, cond, min, List, [], ◌∷◌, ◌++◌, refl, sym, ap, subst, ◌∙◌, append_assoc, inl, inr, arith, Option, Some, None, eqb-true}
use mathlib.Core.Bool.{true≢false}
use Rattle.std.specs.List.{count_by}
use Rattle.std.proofs.lemmas.Bool.{and_parts, cases_lt}
use Rattle.std.proofs.lemmas.List.Sums.{sum_by-append, sum_by-cons}
use Rattle.faults.specs.declared.kind.FaultKind.{FaultKind}
use Rattle.faults.specs.declared.kind.FaultKind.TheVariants as kinds
use Rattle.faults.specs.First.{NoneBreaks}
use Rattle.faults.specs.Kinds.{number_of}
use Rattle.named.proofs.Cuts.{last_or_before}
use Rattle.tml_types.specs.Content.{PlainTyped}
use Rattle.tml_types.specs.Places.{HaveRisingPlaces}
use Rattle.tml_refs.specs.declared.resolving.RefFault.{RefFault}
use Rattle.tml_refs.specs.declared.resolving.RefFault.TheVariants as faults
use Rattle.tml_refs.specs.Firsts.{IsEarliest, IsFirstPlace, StandsAt, bound, nowhere}
use Rattle.tml_refs.specs.Rules.{BreaksReferenceRule, HasReferenceFault}
use Rattle.tml_refs.specs.Taking.{past}
use Rattle.tml_refs.proofs.Placing.{begins_before, place_small}

-- what holds at a place, or else at another, holds at the earlier of both
pub earlier_here : (P : ℕ → Type 0) (first place new : ℕ) → new ≡ min first place → (first < nowhere → P first) → (place < nowhere → P place) → new < nowhere → P new
earlier_here P first place new e h k small = elim (cases_lt first place) [
  | inl below ↦ let same : first ≡ new = omega (arith, e, below) in subst P same (h (omega (arith, same, small)))
  | inr other ↦ let same : place ≡ new = omega (arith, e, other) in subst P same (k (omega (arith, same, small)))
]

-- ---- the first past a limit

module _ (p : PlainTyped → Bool) (most : ℕ) where
  abbrev pub IsPast : List PlainTyped → PlainTyped → Type 0
  IsPast before tag = (p tag && count_by p before == most) ≡ true

  one_counted : (b : Bool) (n : ℕ) → b ≡ true → n ≡ cond b 1 0 → n ≡ 1
  one_counted true n e h = h
  one_counted false n e h = absurd cc

  -- where one is past, there are more than the most
  past_many : (tags before after : List PlainTyped) (tag : PlainTyped) → tags ≡ before ++ tag ∷ after → IsPast before tag → most < count_by p tags
  past_many tags before after tag whole broken =
      let both = and_parts (p tag) (count_by p before == most) broken in
      let n : count_by p before ≡ most = eqb-true (count_by p before) most both.1 in
      let all : count_by p tags ≡ count_by p before + count_by p (tag ∷ after) = ap (count_by p) whole ∙ sum_by-append (λ (t : PlainTyped). cond (p t) 1 0) before (tag ∷ after) in
      let rest = sum_by-cons (λ (t : PlainTyped). cond (p t) 1 0) tag after in
      omega (arith, n, all, rest, one_counted (p tag) (cond (p tag) 1 0) both.0 refl)

  stands_longer : (tags : List PlainTyped) (t : PlainTyped) (place : ℕ) → StandsAt IsPast tags place → StandsAt IsPast (tags ++ t ∷ []) place
  stands_longer tags t place s = record {
    before = s.before;
    tag = s.tag;
    after = s.after ++ t ∷ [];
    whole = ap (λ (ts : List PlainTyped). ts ++ t ∷ []) s.whole ∙ append_assoc s.before (s.tag ∷ s.after) (t ∷ []);
    place_is = s.place_is;
    broken = s.broken;
  }

  -- one tag more
  past_by : (tags : List PlainTyped) (t : PlainTyped) (old : Option ℕ) (n : ℕ) (b : Bool) → (p t && n == most) ≡ b → n ≡ count_by p tags → IsFirstPlace IsPast tags (bound old) → IsFirstPlace IsPast (tags ++ t ∷ []) (bound (cond b (Some t.place) old))
  past_by tags t old n true e count first =
      let both = and_parts (p t) (n == most) e in
      let here : IsPast tags t = ap (λ (m : ℕ). p t && m == most) (sym count) ∙ e in
      let full : n ≡ most = eqb-true n most both.1 in
      record {
        none = λ before after tag whole below broken. elim (last_or_before tags before after t tag whole) [
          | inl k ↦ omega (arith, below, ap (λ (u : PlainTyped). u.place) k.1)
          | inr k ↦ omega (arith, full, count, past_many tags before k.0 tag k.1 broken)
        ];
        here = λ small. record { before = tags; tag = t; after = []; whole = refl; place_is = refl; broken = here };
      }
  past_by tags t old n false e count first =
      let here : (p t && count_by p tags == most) ≡ false = ap (λ (m : ℕ). p t && m == most) (sym count) ∙ e in
      record {
        none = λ before after tag whole below broken. elim (last_or_before tags before after t tag whole) [
          | inl k ↦ absurd (true≢false (sym (subst (λ (q : List PlainTyped × PlainTyped). IsPast q.0 q.1) (λ i. (sym k.0 i, sym k.1 i)) broken) ∙ here))
          | inr k ↦ first.none before k.0 tag k.1 below broken
        ];
        here = λ small. stands_longer tags t (bound old) (first.here small);
      }

  pub past_more : (tags : List PlainTyped) (t : PlainTyped) (old new : Option ℕ) (n : ℕ) → new ≡ past (p t) n most t.place old → n ≡ count_by p tags → IsFirstPlace IsPast tags (bound old) → IsFirstPlace IsPast (tags ++ t ∷ []) (bound new)
  past_more tags t old new n e count first = subst (λ (o : Option ℕ). IsFirstPlace IsPast (tags ++ t ∷ []) (bound o)) (sym e) (past_by tags t old n (p t && n == most) refl count first)

-- ---- the first fault

module _ (all before : List PlainTyped) (tag : PlainTyped) where
  -- only four rules are broken
  at_least : (n : ℕ) → (BreaksReferenceRule all kinds.DuplicateId before tag → n ≤ 14) → (BreaksReferenceRule all kinds.UnknownReference before tag → n ≤ 15) → (BreaksReferenceRule all kinds.TooManyIntervals before tag → n ≤ 16)
      → (BreaksReferenceRule all kinds.TooManyLinks before tag → n ≤ 17) → (other : FaultKind) → BreaksReferenceRule all other before tag → n ≤ number_of other
  at_least n duplicate unknown intervals links other = elim other as (λ o. BreaksReferenceRule all o before tag → n ≤ number_of o) [
    | kinds.DuplicateId ↦ duplicate
    | kinds.UnknownReference ↦ unknown
    | kinds.TooManyIntervals ↦ intervals
    | kinds.TooManyLinks ↦ links
    | _ ↦ λ b. absurd cc
  ]

  none_of : (BreaksReferenceRule all kinds.DuplicateId before tag → ⊥) → (BreaksReferenceRule all kinds.UnknownReference before tag → ⊥) → (BreaksReferenceRule all kinds.TooManyIntervals before tag → ⊥) → (BreaksReferenceRule all kinds.TooManyLinks before tag → ⊥)
      → (other : FaultKind) → BreaksReferenceRule all other before tag → ⊥
  none_of duplicate unknown intervals links other = elim other as (λ o. BreaksReferenceRule all o before tag → ⊥) [
    | kinds.DuplicateId ↦ duplicate
    | kinds.UnknownReference ↦ unknown
    | kinds.TooManyIntervals ↦ intervals
    | kinds.TooManyLinks ↦ links
    | _ ↦ λ b. absurd cc
  ]

module _ {all : List PlainTyped} (placed : HaveRisingPlaces all) {repeat unknown intervals links : ℕ} (repeats : IsFirstPlace (BreaksReferenceRule all kinds.DuplicateId) all repeat) (unknowns : IsFirstPlace (BreaksReferenceRule all kinds.UnknownReference) all unknown)
    (too_many : IsFirstPlace (BreaksReferenceRule [] kinds.TooManyIntervals) all intervals) (too_many_links : IsFirstPlace (BreaksReferenceRule [] kinds.TooManyLinks) all links) where
  -- before all four places no rule is broken
  none_below : (place : ℕ) → place ≤ repeat → place ≤ unknown → place ≤ intervals → place ≤ links → (before after : List PlainTyped) (tag : PlainTyped) → all ≡ before ++ tag ∷ after → tag.place < place
      → (rule : FaultKind) → BreaksReferenceRule all rule before tag → ⊥
  none_below place a b c d before after tag whole below =
      none_of all before tag
      (repeats.none before after tag whole (omega (arith, a, below)))
      (unknowns.none before after tag whole (omega (arith, b, below)))
      (too_many.none before after tag whole (omega (arith, c, below)))
      (too_many_links.none before after tag whole (omega (arith, d, below)))

  sound_before : (place : ℕ) → place ≤ repeat → place ≤ unknown → place ≤ intervals → place ≤ links → (before after : List PlainTyped) (tag : PlainTyped) → all ≡ before ++ tag ∷ after → tag.place ≡ place → NoneBreaks (BreaksReferenceRule all) before
  sound_before place a b c d before after tag whole is = λ first rest t rule cut.
      let longer : all ≡ (first ++ t ∷ rest) ++ tag ∷ after = whole ∙ ap (λ (ts : List PlainTyped). ts ++ tag ∷ after) cut in
      none_below place a b c d first (rest ++ tag ∷ after) t (longer ∙ append_assoc first (t ∷ rest) (tag ∷ after)) (omega (arith, is, begins_before all placed first rest after t tag longer)) rule

  pub none_at_all : IsEarliest repeat unknown intervals links None → NoneBreaks (BreaksReferenceRule all) all
  none_at_all h = λ before after tag rule whole. none_below nowhere h.0 h.1 h.2 h.3 before after tag whole (place_small all placed before after tag whole) rule

  -- at the earliest place stands the first fault
  pub earliest_fault : (fault : RefFault) → IsEarliest repeat unknown intervals links (Some fault) → HasReferenceFault all fault
  earliest_fault (faults.DuplicateId place) h =
      let at = repeats.here (omega (arith, h.0, h.1)) in record {
        before = at.before;
        element = at.tag;
        after = at.after;
        whole = at.whole;
        none_before = sound_before place (omega (arith, h.0)) h.2 h.3 h.4 at.before at.after at.tag at.whole (at.place_is ∙ sym h.0);
        broken = at.broken;
        least = at_least all at.before at.tag 14 (λ b. omega arith) (λ b. omega arith) (λ b. omega arith) (λ b. omega arith);
        place_is = h.0 ∙ sym at.place_is;
      }
  earliest_fault (faults.UnknownReference place) h =
      let at = unknowns.here (omega (arith, h.0, h.1)) in record {
        before = at.before;
        element = at.tag;
        after = at.after;
        whole = at.whole;
        none_before = sound_before place (omega (arith, h.2)) (omega (arith, h.0)) h.3 h.4 at.before at.after at.tag at.whole (at.place_is ∙ sym h.0);
        broken = at.broken;
        least = at_least all at.before at.tag 15 (λ b. absurd (repeats.none at.before at.after at.tag at.whole (omega (arith, h.0, h.2, at.place_is)) b)) (λ b. omega arith) (λ b. omega arith) (λ b. omega arith);
        place_is = h.0 ∙ sym at.place_is;
      }
  earliest_fault (faults.TooManyIntervals place) h =
      let at = too_many.here (omega (arith, h.0, h.1)) in record {
        before = at.before;
        element = at.tag;
        after = at.after;
        whole = at.whole;
        none_before = sound_before place (omega (arith, h.2)) (omega (arith, h.3)) (omega (arith, h.0)) h.4 at.before at.after at.tag at.whole (at.place_is ∙ sym h.0);
        broken = at.broken;
        least = at_least all at.before at.tag 16
            (λ b. absurd (repeats.none at.before at.after at.tag at.whole (omega (arith, h.0, h.2, at.place_is)) b))
            (λ b. absurd (unknowns.none at.before at.after at.tag at.whole (omega (arith, h.0, h.3, at.place_is)) b))
            (λ b. omega arith) (λ b. omega arith);
        place_is = h.0 ∙ sym at.place_is;
      }
  earliest_fault (faults.TooManyLinks place) h =
      let at = too_many_links.here (omega (arith, h.0, h.1)) in record {
        before = at.before;
        element = at.tag;
        after = at.after;
        whole = at.whole;
        none_before = sound_before place (omega (arith, h.2)) (omega (arith, h.3)) (omega (arith, h.4)) (omega (arith, h.0)) at.before at.after at.tag at.whole (at.place_is ∙ sym h.0);
        broken = at.broken;
        least = at_least all at.before at.tag 17
            (λ b. absurd (repeats.none at.before at.after at.tag at.whole (omega (arith, h.0, h.2, at.place_is)) b))
            (λ b. absurd (unknowns.none at.before at.after at.tag at.whole (omega (arith, h.0, h.3, at.place_is)) b))
            (λ b. absurd (too_many.none at.before at.after at.tag at.whole (omega (arith, h.0, h.4, at.place_is)) b))
            (λ b. omega arith);
        place_is = h.0 ∙ sym at.place_is;
      }
  earliest_fault faults.Memory h = absurd h
