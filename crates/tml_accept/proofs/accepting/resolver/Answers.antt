use Rattle.std.proofs.Common.{List, ℕ, ◌++◌, ◌∷◌, [], subst}
use Rattle.tml_span.specs.Faults.{HasCutFault}
use Rattle.tml_types.specs.View.{typed_of}
use Rattle.tml_types.proofs.Walks.{when_ok}
use Rattle.tml_accept.proofs.FirstOf.{of_cut, of_source}
use Rattle.tml_accept.proofs.accepting.resolver.Goals as goal

pub take-requires : goal.take-requires
take-requires c =
    let (typed, taken, given) = c.loop-tag.invariant in
    let gives = rw c.in-Ok-Some.field-0-is at c.in-Ok-Some.ensures.gives in
    (typed, taken, (gives c.args.doc.now typed given).1)

pub loop-tag-preserved : goal.loop-tag-preserved
loop-tag-preserved c =
    let (typed, taken, given) = c.loop-tag.invariant in
    let gives = rw c.in-Ok-Some.field-0-is at c.in-Ok-Some.ensures.gives in
    let more = gives c.args.doc.now typed given in
    (typed ++ typed_of c.in-Ok-Some.tag ∷ [], when_ok c.take.result c.if-is_err.ensures.value c.take.ensures typed taken more.1, more.0)

pub returns-in-Ok-None-clause-ok : goal.returns-in-Ok-None-clause-ok
returns-in-Ok-None-clause-ok c =
    let (typed, taken, given) = c.loop-tag.invariant in
    let gives = rw c.in-Ok-None.field-0-is at c.in-Ok-None.ensures.gives in
    let tree = gives c.args.doc.now typed given in
    (tree.0, typed, (tree.1, tree.2), taken)

pub returns-then-is_err-clause-err : goal.returns-then-is_err-clause-err
returns-then-is_err-clause-err c =
    let (typed, taken, given) = c.loop-tag.invariant in
    let gives = rw c.in-Ok-Some.field-0-is at c.in-Ok-Some.ensures.gives in
    let more = gives c.args.doc.now typed given in
    let cut = c.out_of_memory.result in
    rw (c.of-then-is_err.ensures, c.kind_and_place-then-is_err.ensures) (of_cut c.args.doc.now cut (subst (λ (doc : List ℕ). HasCutFault doc cut) more.0.1.source_is c.out_of_memory.ensures))

pub returns-in-Err-pull-clause-err : goal.returns-in-Err-pull-clause-err
returns-in-Err-pull-clause-err c =
    let (typed, taken, given) = c.loop-tag.invariant in
    rw (c.of-in-Err-pull.ensures, c.kind_and_place-in-Err-pull.ensures) (of_source c.args.doc.now c.in-Err-pull.fault (c.in-Err-pull.ensures.gives c.args.doc.now typed given))
