use Rattle.std.proofs.Common.{subst, ◌∙◌, ap}
use Rattle.std.proofs.lemmas.Result.{on_ok_weaker}
use Rattle.walks.specs.States.{VisitsState, next_entry}
use Rattle.walks.specs.declared.states.Entry.{Entry}
use Rattle.walks.proofs.StateLaws.{followed}
use Rattle.walks.proofs.states.States.follow.Goals as goal

pub returns-clause-reached : goal.returns-clause-reached
returns-clause-reached c =
    let old = c.args.self.now in
    let new = c.visit.new.self in
    let entry = c.next_entry.ensures ∙ ap (λ (here : Entry). next_entry here c.args.head c.args.edge) c.entry-here.ensures.entry in
    on_ok_weaker c.visit.result (λ visits. (followed old new c.args.head c.args.edge c.requires.head c.requires.from (subst (λ (e : Entry). VisitsState e old new) entry visits)).1) c.visit.ensures
