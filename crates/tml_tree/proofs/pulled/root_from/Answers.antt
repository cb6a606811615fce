use Rattle.std.proofs.Common.{◌≡◌, inr, refl, sym, subst}
use Rattle.tml_span.specs.Reader.{Reading, IsReading}
use Rattle.tml_span.specs.View.{unit_of}
use Rattle.tml_tree.proofs.Pulling.{all_known, left_at_fault, nothing_given, one_more, reads_on, source_fault}
use Rattle.tml_tree.proofs.Taken.{agrees, taken_more}
use Rattle.tml_tree.proofs.pulled.root_from.Goals as goal

pub loop-unit-init : goal.loop-unit-init
loop-unit-init c = nothing_given c.args.reader.now c.requires.reading c.requires.none_given c.new-builder.ensures

pub take-requires : goal.take-requires
take-requires c = let at = c.loop-unit.invariant in agrees at.given c.loop-unit.builder at.known

pub returns-in-Err-take-clause-fault : goal.returns-in-Err-take-clause-fault
returns-in-Err-take-clause-fault c =
    let gives = rw c.in-Ok-Some.field-0-is at c.in-Ok-Some.ensures.gives in
    source_fault c.in-Ok-Some.unit c.loop-unit.invariant gives c.loop-unit.builder.nesting c.in-Err-take.fault (λ given taken. (_, _, taken)) c.in-Err-take.ensures.err

pub returns-in-Err-take-clause-leaves : goal.returns-in-Err-take-clause-leaves
returns-in-Err-take-clause-leaves c =
    let gives = rw c.in-Ok-Some.field-0-is at c.in-Ok-Some.ensures.gives in
    left_at_fault c.args.reader.now c.in-Ok-Some.unit c.loop-unit.builder.nesting c.in-Err-take.fault c.requires.reading c.loop-unit.invariant gives c.in-Err-take.ensures.err

pub loop-unit-preserved : goal.loop-unit-preserved
loop-unit-preserved c =
    let gives = rw c.in-Ok-Some.field-0-is at c.in-Ok-Some.ensures.gives in
    one_more c.in-Ok-Some.unit c.loop-unit.invariant gives (λ given taken. taken_more given (unit_of c.in-Ok-Some.unit) c.loop-unit.builder c.take.new.self taken c.in_default.ensures.ok)

pub returns-in-Some-clause-ok : goal.returns-in-Some-clause-ok
returns-in-Some-clause-ok c =
    let gives = rw c.in-Ok-None.field-0-is at c.in-Ok-None.ensures.gives in
    let all = all_known c.loop-unit.invariant gives in
    (all.0, all.1, c.in-Some.ensures.some all.0 all.2)

pub returns-in-None-clause-fault : goal.returns-in-None-clause-fault
returns-in-None-clause-fault c =
    let gives = rw c.in-Ok-None.field-0-is at c.in-Ok-None.ensures.gives in
    let all = all_known c.loop-unit.invariant gives in
    (all.0, all.1, inr (refl, (cc), c.in-None.ensures.none refl all.0 all.2))

pub returns-in-Err-clause-leaves : goal.returns-in-Err-clause-leaves
returns-in-Err-clause-leaves c =
    let at = c.loop-unit.invariant in
    subst (λ (r : Reading). (r.source ≡ c.args.reader.now.source) × IsReading r) (sym c.in-Err.ensures.gives)
    (at.source_is, reads_on c.args.reader.now c.loop-unit.reader c.requires.reading at)
