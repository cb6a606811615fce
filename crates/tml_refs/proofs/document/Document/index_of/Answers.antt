use Rattle.std.proofs.Common.{Some}
use Rattle.tml_types.specs.declared.typed.TagKind.TheVariants as kind
use Rattle.tml_refs.proofs.Indexes.{found_named}
use Rattle.tml_refs.proofs.document.Document.index_of.Goals as goal

pub returns-in-Some-clause-some : goal.returns-in-Some-clause-some
returns-in-Some-clause-some c = rw (← c.self.view_is) (found_named _ _ c.self.invariant.1 c.args.name.now kind.Instance (Some c.in-Some.number) tt c.in-Some.ensures.number)

pub returns-in-None-clause-some : goal.returns-in-None-clause-some
returns-in-None-clause-some c = rw (← c.self.view_is) (found_named _ _ c.self.invariant.1 c.args.name.now kind.Timex c.number_of-in-None.result tt c.number_of-in-None.ensures.number)
