use Rattle.std.proofs.Common.{◌∙◌}
use Rattle.tml_refs.specs.Rules.{kind_and_place}
use Rattle.tml_accept.proofs.FirstOf.{of_typed}
use Rattle.tml_canon.proofs.document.canonical_text.Goals as goal

pub finish-requires : goal.finish-requires
finish-requires c = (c.in_ok-taken.ensures.ok.typed, c.in_ok-taken.ensures.ok.taken)

pub returns-in-Err-clause-err : goal.returns-in-Err-clause-err
returns-in-Err-clause-err c =
    let all = c.in_ok-taken.ensures.ok in
    let (root, whole, document, types) = all.tree in
    rw (c.of.ensures, c.kind_and_place.ensures) (of_typed c.args.doc.now root all.typed (kind_and_place c.in-Err.fault) ((all.us, whole, document), types) (c.in-Err.ensures.err all.typed all.taken))

pub returns-in-Ok-finish-clause-accepted : goal.returns-in-Ok-finish-clause-accepted
returns-in-Ok-finish-clause-accepted c =
    let all = c.in_ok-taken.ensures.ok in
    let (root, whole, document, types) = all.tree in
    (_, (root, ((all.us, whole, document), (all.typed, types, c.in-Ok.ensures.ok all.typed all.taken))))

pub returns-in-Ok-finish-clause-text : goal.returns-in-Ok-finish-clause-text
returns-in-Ok-finish-clause-text c =
    let all = c.in_ok-taken.ensures.ok in
    let (root, whole, document, types) = all.tree in
    (root, (all.us, whole, document), c.from_vec.ensures ∙ c.in-Ok-finish.ensures all.us all.history root all.written document)
