use Rattle.std.proofs.Common.{arith}
use Rattle.std.proofs.lemmas.Bool.Decides.{nat_tests}
use Rattle.tml_span.proofs.Passing.{passes_all, passes_unit, stopped, bad_reference}
use Rattle.tml_span.proofs.Pulling.{at, passing, place_within}
use Rattle.tml_span.proofs.check.check_units.Goals as goal

pub split_at-requires : goal.split_at-requires
split_at-requires c = place_within (at c.args.source.now c.args.start) c.requires

pub loop-rest-init : goal.loop-rest-init
loop-rest-init c = passing (at c.args.source.now c.args.start) c.requires c.split_at.result.1.now c.split_at.ensures.back

pub returns-in_default-clause-err : goal.returns-in_default-clause-err
returns-in_default-clause-err c =
    let at = c.loop-rest in
    stopped c.args.source.now at.rest.now at.place c.requires.2.utf8 at.invariant (λ z. grind (arith, nat_tests, z)) c.in_default.ensures.unit

pub returns-in-Some-bad-clause-err : goal.returns-in-Some-bad-clause-err
returns-in-Some-bad-clause-err c =
    let at = c.loop-rest in
    let found = c.in-Some.ensures.unit in
    bad_reference c.args.source.now at.rest.now _ at.place found.0 c.in-Some-bad.place c.requires.2.utf8 at.invariant found.1 (rw c.in-Some-bad.is at found.2)

pub loop-rest-preserved : goal.loop-rest-preserved
loop-rest-preserved c =
    let at = c.loop-rest in
    let found = c.in-Some.ensures.unit in
    passes_unit c.args.source.now at.rest.now c.in-Some.field-0.rest.now at.place found.0 at.invariant found.1 (rw c.in_default-bad.is at found.2) c.in-Some.ensures.shorter

pub returns-clause-ok : goal.returns-clause-ok
returns-clause-ok c =
    let at = c.loop-rest in
    passes_all c.args.source.now at.rest.now at.place c.requires.2.utf8 at.invariant (grind (arith, nat_tests))
