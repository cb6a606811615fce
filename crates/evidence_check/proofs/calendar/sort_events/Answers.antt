use Rattle.std.proofs.Common.{◌≡◌, rules}
use Rattle.std.proofs.lemmas.Fn.{always_returns_same}
use Rattle.evidence_check.specs.Calendar.{event_key}
use Rattle.evidence_check.proofs.calendar.sort_events.Goals as goal

pub returns-clause-in_order : goal.returns-clause-in_order
returns-clause-in_order c = c.sort_unstable_by_key.ensures.sorted event_key (always_returns_same _ (λ a r. r ≡ event_key a.0.now) _ (λ a r f k. search rules))
