use Rattle.std.proofs.Common.{[], inl, inr, refl, sym, ◌∙◌, subst, arith}
use Rattle.std.proofs.lemmas.Bool.Decides.{nat_tests}
use Rattle.timex_value.specs.Durations.{ClockThen}
use Rattle.timex_value.proofs.CountTexts.{tail_is}
use Rattle.timex_value.proofs.Lengths.{clock_read}
use Rattle.timex_value.proofs.durations.clock.Goals as goal

pub returns-then-not-is_empty : goal.returns-then-not-is_empty
returns-then-not-is_empty c = λ h m s k. elim k [
  | inl e ↦ grind (arith, nat_tests)
  | inr e ↦
      let same = tail_is (sym e.1.1 ∙ c.in_ok-text.ensures) in
      let read = clock_read _ _ _ h m s _ _ (_, c.count_at-hours.ensures, (_, c.count_at-minutes.ensures, (_, c.count_at-seconds.ensures, refl))) (subst (λ x. ClockThen h m s x []) same e.1.2) in
      let none = read.1 in
      grind (arith, nat_tests)
]
