-- Joined lines, and their sum.
use Rattle.std.proofs.Common.{◌≡◌, ℕ, zero, suc, ◌≤◌, ◌+ℤ◌, List, [], ◌∷◌, ◌++◌, take, Some, refl, sym, ap, subst, ◌∙◌, arith}
use Rattle.std.proofs.lemmas.Int.{ints}
use Rattle.std.proofs.lemmas.List.{take-take}
use Rattle.std.proofs.lemmas.Option.{same_Some}
use Rattle.seconds_core.specs.declared.line.Constraint.{Constraint}
use Rattle.seconds_core.specs.declared.line.Line.{Line}
use Rattle.seconds_core.specs.Constraints.{constraint_of}
use Rattle.seconds_core.specs.Cycles.{LeadFromTo, sum_of, weight_in}
use Rattle.seconds_core.specs.Timed.{PlainTimed}
use Rattle.seconds_check.specs.Refusals.{LinesGoFrom, LinesGoOn}

module _ (timed : PlainTimed) where
  -- one line more
  pub joined_push : (lines : List Line) (line : Line) (c : Constraint) (x y : ℕ) → LeadFromTo timed lines x y → constraint_of timed line ≡ Some c → c.from ≡ y → LeadFromTo timed (lines ++ line ∷ []) x c.to
  joined_push [] line c x y same named from = (c, named, from ∙ sym same, refl)
  joined_push (first ∷ lines) line c x y joined named from = (joined.0, joined.1, joined.2, joined_push lines line c joined.0.to y joined.3 named from)

  pub sum_push : (lines : List Line) (line : Line) → sum_of timed (lines ++ line ∷ []) ≡ sum_of timed lines +ℤ weight_in (constraint_of timed line)
  sum_push [] line = omega (arith, ints)
  sum_push (first ∷ lines) line = let rest = sum_push lines line in omega (arith, ints, rest)

  -- the first of joined lines begins where they do
  pub start_is : (line : Line) (lines : List Line) (x y : ℕ) (c : Constraint) → LeadFromTo timed (line ∷ lines) x y → constraint_of timed line ≡ Some c → c.from ≡ x
  start_is line lines x y c joined named =
      let same : joined.0 ≡ c = same_Some _ _ (sym joined.1 ∙ named) in
      ap (λ (d : Constraint). d.from) (sym same) ∙ joined.2

  -- joined lines end at one point
  pub one_end : (lines : List Line) (x y z : ℕ) → LeadFromTo timed lines x y → LeadFromTo timed lines x z → y ≡ z
  one_end [] x y z h k = sym h ∙ k
  one_end (line ∷ lines) x y z h k =
      let same : h.0 ≡ k.0 = same_Some _ _ (sym h.1 ∙ k.1) in
      one_end lines h.0.to y z h.3 (subst (λ (c : Constraint). LeadFromTo timed lines c.to z) (sym same) k.3)

  -- joined lines that end where they begin do so wherever they are joined
  pub ends_alike : (lines : List Line) (x y z : ℕ) → LeadFromTo timed lines x x → LeadFromTo timed lines y z → y ≡ z
  ends_alike [] x y z h k = k
  ends_alike (line ∷ lines) x y z h k =
      let begins : k.0.from ≡ x = start_is line lines x x k.0 h k.1 in
      let same : y ≡ x = sym k.2 ∙ begins in
      same ∙ one_end (line ∷ lines) x x z h (subst (λ (w : ℕ). LeadFromTo timed (line ∷ lines) w z) same k)

  -- the first lines of joined ones are joined
  pub joined_take : (lines : List Line) (x y k : ℕ) → LeadFromTo timed lines x y → LinesGoFrom timed x (take k lines)
  joined_take lines x y zero joined = (x, refl)
  joined_take [] x y (suc k) joined = (x, refl)
  joined_take (line ∷ lines) x y (suc k) joined =
      let rest = joined_take lines joined.0.to y k joined.3 in
      (rest.0, (joined.0, joined.1, joined.2, rest.1))

  -- where one more line follows, those before it lead to where it begins
  pub joined_split : (lines : List Line) (line : Line) (x z : ℕ) → LeadFromTo timed (lines ++ line ∷ []) x z → (y : ℕ) × LeadFromTo timed lines x y × LeadFromTo timed (line ∷ []) y z
  joined_split [] line x z joined = (x, refl, joined)
  joined_split (first ∷ lines) line x z joined =
      let rest = joined_split lines line joined.0.to z joined.3 in
      (rest.0, (joined.0, joined.1, joined.2, rest.1), rest.2)

  -- joined lines go on to each place before their end
  pub goes_whole : (lines : List Line) (x y k : ℕ) → LeadFromTo timed lines x y → LinesGoOn timed (take k lines)
  goes_whole lines x y k joined = let part = joined_take lines x y k joined in (x, (part.0, part.1))

  -- lines that go on to some place do so to each place before it
  pub goes_less : (lines : List Line) (j k : ℕ) → j ≤ k → LinesGoOn timed (take k lines) → LinesGoOn timed (take j lines)
  goes_less lines j k le goes =
      let less = goes_whole (take k lines) goes.0 goes.1.0 j goes.1.1 in
      subst (LinesGoOn timed) (take-take j k lines le) less
