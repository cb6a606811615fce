use Rattle.std.proofs.Common.{refl, sym, ◌∙◌}
use Rattle.std.proofs.lemmas.Result.{err_from_is_err_and}
use Rattle.tml_types.specs.Reading.{attrs_of}
use Rattle.tml_types.specs.Walking.{name_of_kind}
use Rattle.tml_types.proofs.OneRule.{refused, repeated_fault}
use Rattle.tml_types.proofs.OneTag.{yields_none, yields_one}
use Rattle.tml_types.proofs.typing.type_one.Goals as goal

pub returns-in-Ok-true-clause-err : goal.returns-in-Ok-true-clause-err
returns-in-Ok-true-clause-err c = repeated_fault c.args.name (attrs_of c.args.of) c.args.of.place (sym (c.in-Ok-true.ensures) ∙ c.in-Ok-true.field-0-test)

pub returns-in-None-clause-ok : goal.returns-in-None-clause-ok
returns-in-None-clause-ok c = yields_none c.args.name (attrs_of c.args.of) c.args.of.place (sym (c.in-Ok-false.ensures) ∙ c.in-Ok-false.field-0-test) (c.in-None.ensures.none refl)

pub returns-in_err-typed_tag-in-Some-clause-err : goal.returns-in_err-typed_tag-in-Some-clause-err
returns-in_err-typed_tag-in-Some-clause-err c =
    let p = err_from_is_err_and c.from_residual.result c.from_residual.ensures.1 in
    rw (p.1, p.2, c.in-Some.ensures.some) (refused (name_of_kind c.in-Some.kind) (attrs_of c.args.of) c.args.of.place _ (sym (c.in-Ok-false.ensures) ∙ c.in-Ok-false.field-0-test) c.in_err-typed_tag-in-Some.ensures.err)

pub returns-in_ok-typed_tag-in-Some-clause-ok : goal.returns-in_ok-typed_tag-in-Some-clause-ok
returns-in_ok-typed_tag-in-Some-clause-ok c =
    rw c.in-Some.ensures.some
    (yields_one (name_of_kind c.in-Some.kind) (attrs_of c.args.of) c.args.of.place c.in_ok-typed_tag-in-Some.field-0 (sym (c.in-Ok-false.ensures) ∙ c.in-Ok-false.field-0-test) c.in_ok-typed_tag-in-Some.ensures.ok)
