use Rattle.std.proofs.Common.{sym, subst, Option}
use Rattle.std.specs.Prelude.{OnOk}
use Rattle.tml_types.specs.declared.typed.TypedTag.{TypedTag}
use Rattle.tml_canon.specs.Taking.{MayTakeTag, TakesTag}
use Rattle.tml_canon.proofs.Taking.{when_any}
use Rattle.tml_canon.proofs.document.Taken.take.Goals as goal

pub take-requires-in-Some : goal.take-requires-in-Some
take-requires-in-Some c = subst (MayTakeTag c.args.self.now.resolver) c.in-Some.is c.requires

pub returns-in-Some-clause-written : goal.returns-in-Some-clause-written
returns-in-Some-clause-written c = when_any c.take-in-Some.result c.in_ok-take.ensures

pub returns-in-Some-clause-taken : goal.returns-in-Some-clause-taken
returns-in-Some-clause-taken c =
    subst (λ (o : Option TypedTag). OnOk c.take-in-Some.result (TakesTag c.args.self.now.resolver o c.take-in-Some.new.self)) (sym c.in-Some.is) c.take-in-Some.ensures
