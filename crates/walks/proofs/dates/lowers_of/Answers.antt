use Rattle.std.proofs.Common.{◌≡◌, rules}
use Rattle.std.proofs.lemmas.Fn.{always_returns_same}
use Rattle.net_core.specs.Nets.{lower, points}
use Rattle.walks.specs.declared.dates.Date.{Date}
use Rattle.walks.proofs.DateLaws.{dates_sorted}
use Rattle.walks.proofs.dates.lowers_of.Goals as goal

pub returns-clause-dates : goal.returns-clause-dates
returns-clause-dates c = dates_sorted (lower c.args.net.now) (points c.args.net.now) c.in_ok-dates.dates.items c.sort_unstable_by_key.new.self.items
    c.sort_unstable_by_key.ensures.permutation (search rules)

pub returns-clause-sorted : goal.returns-clause-sorted
returns-clause-sorted c = c.sort_unstable_by_key.ensures.sorted (λ (date : Date). date.number) (always_returns_same _ (λ a r. r ≡ a.0.now.number) _ (λ a r f k. search rules))
