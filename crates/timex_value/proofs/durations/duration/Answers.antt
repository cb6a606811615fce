use Rattle.std.proofs.Common.{ap, refl, ◌∙◌}
use Rattle.std.proofs.lemmas.Bool.{false≢true}
use Rattle.timex_value.specs.Durations.{is_length}
use Rattle.timex_value.proofs.Lengths.{length_read, one_clock, length_by_counts}
use Rattle.timex_value.proofs.durations.duration.Goals as goal

pub returns-in_err-hours : goal.returns-in_err-hours
returns-in_err-hours c = rw c.from_residual-in_err-hours.ensures (λ l h.
    let read = length_read _ _ _ _ l _ _ _ c.in_ok-text.ensures (_, c.count_at-years.ensures, (_, c.count_at-months.ensures, (_, c.count_at-weeks.ensures, (_, c.count_at-days.ensures, refl)))) h in
    c.in_err-hours.ensures l.hours l.minutes l.seconds read.1)

pub returns-else-is_length : goal.returns-else-is_length
returns-else-is_length c = λ l h.
    let read = length_read _ _ _ _ l _ _ _ c.in_ok-text.ensures (_, c.count_at-years.ensures, (_, c.count_at-months.ensures, (_, c.count_at-weeks.ensures, (_, c.count_at-days.ensures, refl)))) h in
    let clock = one_clock _ _ _ l.hours l.minutes l.seconds _ c.in_ok-hours.ensures read.1 in
    false≢true (c.if-is_length.ensures ∙ (ap (λ m. is_length m) (length_by_counts _ l read.0 clock.0 clock.1 clock.2) ∙ h.5))
