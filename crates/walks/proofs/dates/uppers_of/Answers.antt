use Rattle.std.proofs.Common.{◌≡◌, rules}
use Rattle.std.proofs.lemmas.Fn.{always_returns_same}
use Rattle.net_core.specs.Nets.{points, upper}
use Rattle.walks.specs.declared.dates.Date.{Date}
use Rattle.walks.proofs.DateLaws.{dates_sorted}
use Rattle.walks.proofs.dates.uppers_of.Goals as goal

pub returns-clause-dates : goal.returns-clause-dates
returns-clause-dates c = dates_sorted (upper c.args.net.now) (points c.args.net.now) c.in_ok-dates.dates.items c.sort_unstable_by_key.new.self.items
    c.sort_unstable_by_key.ensures.permutation (search rules)

pub returns-clause-sorted : goal.returns-clause-sorted
returns-clause-sorted c = c.sort_unstable_by_key.ensures.sorted (λ (date : Date). record { 0 = date.number }) (always_returns_same _ (λ a r. r ≡ record { 0 = a.0.now.number }) _ (λ a r f k. search rules))
