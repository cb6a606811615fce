use Rattle.std.proofs.Common.{List, ℕ, [], ◌∷◌, ◌++◌, sym, subst}
use Rattle.tml_span.specs.Faults.{HasCutFault}
use Rattle.tml_span.specs.View.{unit_of}
use Rattle.tml_tree.specs.Rules.{History}
use Rattle.tml_types.specs.TagReader.{typed_with}
use Rattle.tml_types.specs.declared.tag_reader.TagReader.{TagReader}
use Rattle.tml_types.proofs.Walks.{when_ok}
use Rattle.tml_accept.proofs.FirstOf.{of_cut, of_source}
use Rattle.tml_canon.specs.Taking.{HasTakenUnits}
use Rattle.tml_canon.specs.Writing.{HasWrittenUnits}
use Rattle.tml_canon.proofs.Taking.{may_take, tag_taken}
use Rattle.tml_canon.proofs.WrittenUnits.{units_more}
use Rattle.tml_canon.proofs.document.take_all.Goals as goal

pub loop-unit-init : goal.loop-unit-init
loop-unit-init c =
    let (given, is) = c.in-Ok.ensures.begins in
    record { us = []; typed = []; given = given; taken = c.new-2.ensures; written = subst (λ (h : History). HasWrittenUnits [] h c.new-3.result) (sym is) c.new-3.ensures }

pub take-requires : goal.take-requires
take-requires c =
    let so_far = c.loop-unit.invariant in
    let gives = rw c.in-Ok-Some.field-0-is at c.in-Ok-Some.ensures.gives in
    may_take so_far.typed c.pull_unit.new.tag c.loop-unit.taken.resolver so_far.taken (gives.1 c.args.doc.now so_far.us so_far.typed so_far.given).1

pub loop-unit-preserved : goal.loop-unit-preserved
loop-unit-preserved c =
    let so_far = c.loop-unit.invariant in
    let unit = unit_of c.in-Ok-Some.unit in
    let tag = c.pull_unit.new.tag in
    let gives = rw c.in-Ok-Some.field-0-is at c.in-Ok-Some.ensures.gives in
    let more = gives.1 c.args.doc.now so_far.us so_far.typed so_far.given in
    subst (λ (r : TagReader). HasTakenUnits c.args.doc.now r c.take.new.self) (sym c.take_back.ensures) (record {
      us = so_far.us ++ unit ∷ [];
      typed = typed_with so_far.typed tag;
      given = more.0;
      taken = tag_taken so_far.typed tag _ _ so_far.taken more.1 (when_ok c.take.result c.if-is_err.ensures.value c.take.ensures.taken);
      written = units_more so_far.us unit _ _ _ _ gives.0 so_far.written (when_ok c.take.result c.if-is_err.ensures.value c.take.ensures.written);
    })

pub returns-in-Ok-None-clause-ok : goal.returns-in-Ok-None-clause-ok
returns-in-Ok-None-clause-ok c =
    let so_far = c.loop-unit.invariant in
    let gives = rw c.in-Ok-None.field-0-is at c.in-Ok-None.ensures.gives in
    record {
      us = so_far.us;
      typed = so_far.typed;
      tree = gives c.args.doc.now so_far.us so_far.typed so_far.given;
      taken = so_far.taken;
      history = _;
      written = so_far.written;
    }

pub returns-then-is_err-clause-err : goal.returns-then-is_err-clause-err
returns-then-is_err-clause-err c =
    let so_far = c.loop-unit.invariant in
    let gives = rw c.in-Ok-Some.field-0-is at c.in-Ok-Some.ensures.gives in
    let more = gives.1 c.args.doc.now so_far.us so_far.typed so_far.given in
    let cut = c.out_of_memory.result in
    rw (c.of-then-is_err.ensures, c.kind_and_place-then-is_err.ensures) (of_cut c.args.doc.now cut (subst (λ (doc : List ℕ). HasCutFault doc cut) more.0.source_is c.out_of_memory.ensures))

pub returns-in-Err-pull_unit-clause-err : goal.returns-in-Err-pull_unit-clause-err
returns-in-Err-pull_unit-clause-err c =
    let so_far = c.loop-unit.invariant in
    rw (c.of-in-Err-pull_unit.ensures, c.kind_and_place-in-Err-pull_unit.ensures) (of_source c.args.doc.now c.in-Err-pull_unit.fault (c.in-Err-pull_unit.ensures.gives c.args.doc.now so_far.us so_far.typed so_far.given))
