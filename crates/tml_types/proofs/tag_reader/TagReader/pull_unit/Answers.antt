use Rattle.std.proofs.Common.{◌++◌, List, map, option_map, sym, ap, ◌∙◌, None}
use Rattle.std.specs.Option.{option_to_list}
use Rattle.tml_span.specs.View.{unit_of}
use Rattle.tml_tree.specs.Walking.{PlainTag, tag_of}
use Rattle.tml_types.specs.TagReader.{AreTypedSo, begun_tag}
use Rattle.tml_types.specs.View.{typed_of}
use Rattle.tml_types.specs.Whole.{HasTagFault}
use Rattle.tml_types.proofs.Pulling.{cut_fault, fault_comes, given_placed, none_typed, reads_on, typed_more, unclosed_read, unit_fault, whole_read}
use Rattle.tml_types.proofs.tag_reader.TagReader.pull_unit.Goals as goal

pub returns-in-Ok-clause-gives : goal.returns-in-Ok-clause-gives
returns-in-Ok-clause-gives c = λ source us typed given.
    let gives = rw c.in-Ok-None.field-0-is at c.in-Ok-None.ensures in
    let tree = whole_read c.args.self.now given c.pull.new.self gives c.in-Ok.ensures.ok in
    (tree.0, tree.1, tree.2, tree.3.0)

pub returns-in-Err-end-clause-gives : goal.returns-in-Err-end-clause-gives
returns-in-Err-end-clause-gives c = λ source us typed given.
    let gives = rw c.in-Ok-None.field-0-is at c.in-Ok-None.ensures in
    rw c.in-Err-end.ensures.err.0 (unclosed_read c.args.self.now given c.pull.new.self gives c.in-Err-end.ensures.err.1)

pub returns-in-Err-clause-gives : goal.returns-in-Err-clause-gives
returns-in-Err-clause-gives c = λ source us typed given. cut_fault c.args.self.now given c.pull.new.self c.in-Err.cut c.in-Err.ensures

pub returns-in-Err-judge-clause-gives : goal.returns-in-Err-judge-clause-gives
returns-in-Err-judge-clause-gives c = λ source us typed given.
    let gives = rw c.in-Ok-Some.field-0-is at c.in-Ok-Some.ensures in
    unit_fault c.args.self.now given c.pull.new.self c.in-Ok-Some.unit gives c.in-Err-judge.fault c.refusal.result c.in-Err-judge.ensures.err c.refusal.ensures

pub returns-in_default-clause-gives : goal.returns-in_default-clause-gives
returns-in_default-clause-gives c =
    let gives = rw c.in-Ok-Some.field-0-is at c.in-Ok-Some.ensures in (
      c.in-Ok-judge.ensures.ok,
      λ source us typed given.
          let none = none_typed typed (tag_of (unit_of c.in-Ok-Some.unit)) (ap (option_map begun_tag) (sym c.in_default.is) ∙ c.in-Ok-judge.ensures.begun) in
          let read = reads_on c.args.self.now given c.pull.new.self c.in-Ok-Some.unit gives (AreTypedSo (typed ++ map typed_of (option_to_list None))) c.judge.new.nesting c.in-Ok-judge.ensures.ok none in
          (read, given_placed source _ _ _ read),
    )

pub returns-in-Ok-None-type_one-clause-gives : goal.returns-in-Ok-None-type_one-clause-gives
returns-in-Ok-None-type_one-clause-gives c =
    let gives = rw c.in-Ok-Some.field-0-is at c.in-Ok-Some.ensures in (
      c.in-Ok-judge.ensures.ok,
      λ source us typed given.
          let begun = ap (option_map begun_tag) (sym c.in-Some.is) ∙ c.in-Ok-judge.ensures.begun in
          let yields = rw c.in-Ok-None-type_one.field-0-is at c.in-Ok-None-type_one.ensures.ok in
          let more = typed_more typed (begun_tag c.in-Some.begun) None (tag_of (unit_of c.in-Ok-Some.unit)) begun yields in
          let read = reads_on c.args.self.now given c.pull.new.self c.in-Ok-Some.unit gives (AreTypedSo (typed ++ map typed_of (option_to_list None))) c.judge.new.nesting c.in-Ok-judge.ensures.ok more in
          (read, given_placed source _ _ _ read),
    )

pub returns-in-Ok-type_one-clause-gives : goal.returns-in-Ok-type_one-clause-gives
returns-in-Ok-type_one-clause-gives c =
    let gives = rw c.in-Ok-Some.field-0-is at c.in-Ok-Some.ensures in (
      c.in-Ok-judge.ensures.ok,
      λ source us typed given.
          let begun = ap (option_map begun_tag) (sym c.in-Some.is) ∙ c.in-Ok-judge.ensures.begun in
          let more = typed_more typed (begun_tag c.in-Some.begun) c.in-Ok-type_one.typed (tag_of (unit_of c.in-Ok-Some.unit)) begun c.in-Ok-type_one.ensures.ok in
          let read = reads_on c.args.self.now given c.pull.new.self c.in-Ok-Some.unit gives (AreTypedSo (typed ++ map typed_of (option_to_list c.in-Ok-type_one.typed))) c.judge.new.nesting c.in-Ok-judge.ensures.ok more in
          (read, given_placed source _ _ _ read),
    )

pub returns-clause-gives : goal.returns-clause-gives
returns-clause-gives c = λ source us typed given.
    let gives = rw c.in-Ok-Some.field-0-is at c.in-Ok-Some.ensures in
    let begun = ap (option_map begun_tag) (sym c.in-Some.is) ∙ c.in-Ok-judge.ensures.begun in
    let fault = c.in-Err-type_one.fault in
    let comes = fault_comes typed (begun_tag c.in-Some.begun) fault (tag_of (unit_of c.in-Ok-Some.unit)) begun c.in-Err-type_one.ensures.err in
    c.fault_with.ensures.fault source _
    (reads_on c.args.self.now given c.pull.new.self c.in-Ok-Some.unit gives (λ (tags : List PlainTag). HasTagFault tags fault) c.judge.new.nesting c.in-Ok-judge.ensures.ok comes)
