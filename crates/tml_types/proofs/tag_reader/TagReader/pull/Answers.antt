use Rattle.std.proofs.Common.{◌≡◌, ◌∷◌, ◌≤◌, ◌++◌, [], List, Some, option_map, sym, ap, subst, ◌∙◌, arith}
use Rattle.tml_span.specs.Reader.{Reading}
use Rattle.tml_span.specs.View.{unit_of}
use Rattle.tml_tree.specs.Walking.{PlainTag, tag_of}
use Rattle.tml_types.specs.TagReader.{AreTypedSo, HasReadUnits, begun_tag, bytes_left}
use Rattle.tml_types.specs.View.{typed_of}
use Rattle.tml_types.specs.Whole.{HasTagFault}
use Rattle.tml_types.proofs.Pulling.{fault_comes, fewer_left, given_placed, no_tag, reads_on, typed_more, typed_same, cut_fault, unclosed_read, unit_fault, whole_read}
use Rattle.tml_types.proofs.tag_reader.TagReader.pull.Goals as goal

pub returns-in-Ok-clause-gives : goal.returns-in-Ok-clause-gives
returns-in-Ok-clause-gives c = λ source typed given.
    let gives = rw c.in-Ok-None.field-0-is at c.in-Ok-None.ensures in
    let tree = whole_read c.loop-unit.self (c.loop-unit.invariant.stays source typed given).1 c.pull.new.self gives c.in-Ok.ensures.ok in
    (tree.0, ((c.loop-unit.invariant.stays source typed given).0, tree.1, tree.2), tree.3.0)

pub returns-in-Err-end-clause-gives : goal.returns-in-Err-end-clause-gives
returns-in-Err-end-clause-gives c = λ source typed given.
    let gives = rw c.in-Ok-None.field-0-is at c.in-Ok-None.ensures in
    rw c.in-Err-end.ensures.err.0 (unclosed_read c.loop-unit.self (c.loop-unit.invariant.stays source typed given).1 c.pull.new.self gives c.in-Err-end.ensures.err.1)

pub returns-in-Err-clause-gives : goal.returns-in-Err-clause-gives
returns-in-Err-clause-gives c = λ source typed given. cut_fault c.loop-unit.self (c.loop-unit.invariant.stays source typed given).1 c.pull.new.self c.in-Err.cut c.in-Err.ensures

pub returns-in-Err-judge-clause-gives : goal.returns-in-Err-judge-clause-gives
returns-in-Err-judge-clause-gives c = λ source typed given.
    let gives = rw c.in-Ok-Some.field-0-is at c.in-Ok-Some.ensures in
    unit_fault c.loop-unit.self (c.loop-unit.invariant.stays source typed given).1 c.pull.new.self c.in-Ok-Some.unit gives c.in-Err-judge.fault c.refusal.result c.in-Err-judge.ensures.err c.refusal.ensures

pub returns-in-Ok-Some-type_one-clause-gives : goal.returns-in-Ok-Some-type_one-clause-gives
returns-in-Ok-Some-type_one-clause-gives c = λ source typed given.
    let gives = rw c.in-Ok-Some.field-0-is at c.in-Ok-Some.ensures in
    let begun = ap (option_map begun_tag) (sym c.in-Some.is) ∙ c.in-Ok-judge.ensures.begun in
    let yields = rw c.in-Ok-Some-type_one.field-0-is at c.in-Ok-Some-type_one.ensures.ok in
    let t = c.in-Ok-Some-type_one.typed in
    let more = typed_more typed (begun_tag c.in-Some.tag) (Some t) (tag_of (unit_of c.in-Ok-Some.unit)) begun yields in
    let us = (c.loop-unit.invariant.stays source typed given).0 ++ unit_of c.in-Ok-Some.unit ∷ [] in
    let read = subst (λ (units : Reading). HasReadUnits source us (AreTypedSo (typed ++ typed_of t ∷ [])) (record { units = units; nesting = c.judge.new.nesting; names = c.type_one.new.room })) (sym c.take_back-in-Ok-Some-type_one.ensures)
    (reads_on c.loop-unit.self (c.loop-unit.invariant.stays source typed given).1 c.pull.new.self c.in-Ok-Some.unit gives (AreTypedSo (typed ++ typed_of t ∷ [])) c.judge.new.nesting c.in-Ok-judge.ensures.ok more) in
    (((c.loop-unit.invariant.stays source typed given).0 ++ unit_of c.in-Ok-Some.unit ∷ [], read), given_placed source _ _ _ read)

pub returns-in-Err-type_one-clause-gives : goal.returns-in-Err-type_one-clause-gives
returns-in-Err-type_one-clause-gives c = λ source typed given.
    let gives = rw c.in-Ok-Some.field-0-is at c.in-Ok-Some.ensures in
    let begun = ap (option_map begun_tag) (sym c.in-Some.is) ∙ c.in-Ok-judge.ensures.begun in
    let fault = c.in-Err-type_one.fault in
    let comes = fault_comes typed (begun_tag c.in-Some.tag) fault (tag_of (unit_of c.in-Ok-Some.unit)) begun c.in-Err-type_one.ensures.err in
    c.fault_with.ensures.fault source _
    (reads_on c.loop-unit.self (c.loop-unit.invariant.stays source typed given).1 c.pull.new.self c.in-Ok-Some.unit gives (λ (tags : List PlainTag). HasTagFault tags fault) c.judge.new.nesting c.in-Ok-judge.ensures.ok comes)

pub loop-unit-preserved-in-Ok-None-type_one : goal.loop-unit-preserved-in-Ok-None-type_one
loop-unit-preserved-in-Ok-None-type_one c =
    let gives = rw c.in-Ok-Some.field-0-is at c.in-Ok-Some.ensures in
    let begun = ap (option_map begun_tag) (sym c.in-Some.is) ∙ c.in-Ok-judge.ensures.begun in
    let yields = rw c.in-Ok-None-type_one.field-0-is at c.in-Ok-None-type_one.ensures.ok in
    let fewer = fewer_left c.loop-unit.self c.pull.new.self c.judge.new.nesting c.type_one.new.room c.in-Ok-Some.unit gives in
    record {
      stays = λ source typed given.
          let us = (c.loop-unit.invariant.stays source typed given).0 ++ unit_of c.in-Ok-Some.unit ∷ [] in (
            us,
            subst (λ (units : Reading). HasReadUnits source us (AreTypedSo typed) (record { units = units; nesting = c.judge.new.nesting; names = c.type_one.new.room })) (sym c.take_back.ensures)
                (reads_on c.loop-unit.self (c.loop-unit.invariant.stays source typed given).1 c.pull.new.self c.in-Ok-Some.unit gives (AreTypedSo typed) c.judge.new.nesting c.in-Ok-judge.ensures.ok
                (typed_same typed (begun_tag c.in-Some.tag) (tag_of (unit_of c.in-Ok-Some.unit)) begun yields)),
          );
      source = subst (λ (units : Reading). units.source ≡ c.args.self.now.units.source) (sym c.take_back.ensures) (gives.0 ∙ c.loop-unit.invariant.source);
      moves = subst (λ (units : Reading). bytes_left (record { units = units; nesting = c.judge.new.nesting; names = c.type_one.new.room }) ≤ bytes_left c.args.self.now) (sym c.take_back.ensures)
          (omega (arith, fewer, c.loop-unit.invariant.moves));
    }

pub loop-unit-preserved : goal.loop-unit-preserved
loop-unit-preserved c =
    let gives = rw c.in-Ok-Some.field-0-is at c.in-Ok-Some.ensures in
    let fewer = fewer_left c.loop-unit.self c.pull.new.self c.judge.new.nesting c.loop-unit.self.names c.in-Ok-Some.unit gives in
    record {
      stays = λ source typed given. (
        (c.loop-unit.invariant.stays source typed given).0 ++ unit_of c.in-Ok-Some.unit ∷ [],
        reads_on c.loop-unit.self (c.loop-unit.invariant.stays source typed given).1 c.pull.new.self c.in-Ok-Some.unit gives (AreTypedSo typed) c.judge.new.nesting c.in-Ok-judge.ensures.ok
            (no_tag (AreTypedSo typed) (tag_of (unit_of c.in-Ok-Some.unit)) (ap (option_map begun_tag) (sym c.in_default.is) ∙ c.in-Ok-judge.ensures.begun)),
      );
      source = gives.0 ∙ c.loop-unit.invariant.source;
      moves = omega (arith, fewer, c.loop-unit.invariant.moves);
    }
