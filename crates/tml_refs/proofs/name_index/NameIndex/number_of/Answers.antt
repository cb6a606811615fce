use Rattle.std.proofs.Common.{rules, subst, ◌∙◌}
use Rattle.std.proofs.lemmas.Fn.{always_returns_same}
use Rattle.tml_refs.specs.NameIndex.{AreEntriesInOrder}
use Rattle.tml_refs.proofs.Searches.{entry_order, found_listed, found_number, not_found}
use Rattle.tml_refs.proofs.name_index.NameIndex.number_of.Goals as goal

pub returns-in-Ok-clause-listed : goal.returns-in-Ok-clause-listed
returns-in-Ok-clause-listed c =
    let same = c.as_slice-entries.ensures.value ∙ c.self.view_is in
    let order = subst AreEntriesInOrder c.self.view_is c.self.invariant in
    let at = c.in-Ok.ensures.position (entry_order c.new-key.result) (always_returns_same _ _ _ (λ a r f called. search rules)) in
    found_listed same order c.new-key.ensures c.in-Ok.i c.in-Ok.ensures.bound at

pub returns-in-Ok-clause-number : goal.returns-in-Ok-clause-number
returns-in-Ok-clause-number c =
    let same = c.as_slice-entries.ensures.value ∙ c.self.view_is in
    let order = subst AreEntriesInOrder c.self.view_is c.self.invariant in
    let at = c.in-Ok.ensures.position (entry_order c.new-key.result) (always_returns_same _ _ _ (λ a r f called. search rules)) in
    found_number same order c.new-key.ensures c.in-Ok.i _ c.in-Ok.ensures.bound at

pub returns-in-Err-clause-listed : goal.returns-in-Err-clause-listed
returns-in-Err-clause-listed c =
    let same = c.as_slice-entries.ensures.value ∙ c.self.view_is in
    let order = subst AreEntriesInOrder c.self.view_is c.self.invariant in
    let parted = c.in-Err.ensures.position (entry_order c.new-key.result) (always_returns_same _ _ _ (λ a r f called. search rules)) in
    not_found same order c.new-key.ensures c.in-Err.field-0 parted
