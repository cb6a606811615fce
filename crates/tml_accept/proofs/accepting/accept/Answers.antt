use Rattle.tml_refs.specs.Rules.{kind_and_place}
use Rattle.tml_accept.proofs.FirstOf.{of_typed}
use Rattle.tml_accept.proofs.accepting.accept.Goals as goal

pub returns-in-Err-clause-err : goal.returns-in-Err-clause-err
returns-in-Err-clause-err c =
    let (root, tags, typed, taken) = c.in_ok-resolver.ensures.ok in
    rw (c.of.ensures, c.kind_and_place.ensures) (of_typed c.args.doc.now root tags (kind_and_place c.in-Err.fault) typed (c.in-Err.ensures.err tags taken))
