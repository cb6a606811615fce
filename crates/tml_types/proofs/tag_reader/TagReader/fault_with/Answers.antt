use Rattle.std.proofs.Common.{◌≡◌, List, ◌++◌, ◌∷◌, [], subst, sym, ◌∙◌}
use Rattle.std.specs.Option.{option_to_list}
use Rattle.tml_span.specs.Reader.{Reading}
use Rattle.tml_span.specs.View.{unit_of}
use Rattle.tml_tree.specs.Walking.{PlainTag, tag_of}
use Rattle.tml_types.specs.TagReader.{HasReadUnits}
use Rattle.tml_types.specs.Whole.{HasTagFault}
use Rattle.tml_types.proofs.Pulling.{cut_fault, fault_stays, reads_on, unclosed_read, unit_fault, whole_read}
use Rattle.tml_types.proofs.tag_reader.TagReader.fault_with.Goals as goal

pub returns-in-Err-judge-clause-fault : goal.returns-in-Err-judge-clause-fault
returns-in-Err-judge-clause-fault c = λ source us read.
    let gives = rw c.in-Ok-Some.field-0-is at c.in-Ok-Some.ensures in
    unit_fault c.loop-unit.self (c.loop-unit.invariant.reads source us read).1 c.pull.new.self c.in-Ok-Some.unit gives c.in-Err-judge.refused c.refusal.result c.in-Err-judge.ensures.err c.refusal.ensures

pub loop-unit-preserved : goal.loop-unit-preserved
loop-unit-preserved c =
    let gives = rw c.in-Ok-Some.field-0-is at c.in-Ok-Some.ensures in
    record {
      reads = λ source us read. (
        (c.loop-unit.invariant.reads source us read).0 ++ unit_of c.in-Ok-Some.unit ∷ [],
        subst (λ (units : Reading). HasReadUnits source ((c.loop-unit.invariant.reads source us read).0 ++ unit_of c.in-Ok-Some.unit ∷ []) (λ (tags : List PlainTag). HasTagFault tags c.args.fault) (record { units = units; nesting = c.judge.new.nesting; names = c.loop-unit.self.names })) (sym c.take_back.ensures)
            (reads_on c.loop-unit.self (c.loop-unit.invariant.reads source us read).1 c.pull.new.self c.in-Ok-Some.unit gives (λ (tags : List PlainTag). HasTagFault tags c.args.fault) c.judge.new.nesting c.in_default.ensures.ok (fault_stays c.args.fault (option_to_list (tag_of (unit_of c.in-Ok-Some.unit))))),
      );
      source = subst (λ (units : Reading). units.source ≡ c.args.self.now.units.source) (sym c.take_back.ensures) (gives.0 ∙ c.loop-unit.invariant.source);
    }

pub returns-in-Ok-clause-fault : goal.returns-in-Ok-clause-fault
returns-in-Ok-clause-fault c = λ source us read.
    let gives = rw c.in-Ok-None.field-0-is at c.in-Ok-None.ensures in
    let tree = whole_read c.loop-unit.self (c.loop-unit.invariant.reads source us read).1 c.pull.new.self gives c.in-Ok.ensures.ok in
    (tree.0, ((c.loop-unit.invariant.reads source us read).0, tree.1, tree.2), tree.3)

pub returns-in-Err-end-clause-fault : goal.returns-in-Err-end-clause-fault
returns-in-Err-end-clause-fault c = λ source us read.
    let gives = rw c.in-Ok-None.field-0-is at c.in-Ok-None.ensures in
    rw c.in-Err-end.ensures.err.0 (unclosed_read c.loop-unit.self (c.loop-unit.invariant.reads source us read).1 c.pull.new.self gives c.in-Err-end.ensures.err.1)

pub returns-in-Err-clause-fault : goal.returns-in-Err-clause-fault
returns-in-Err-clause-fault c = λ source us read. cut_fault c.loop-unit.self (c.loop-unit.invariant.reads source us read).1 c.pull.new.self c.in-Err.cut c.in-Err.ensures
