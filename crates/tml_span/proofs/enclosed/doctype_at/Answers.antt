use Rattle.std.proofs.Common.{Some, None, refl}
use Rattle.std.specs.Prelude.{codes}
use Rattle.std.proofs.lemmas.Bool.{false≢true}
use Rattle.std.proofs.lemmas.Bool.Decides.{Decides-eqb}
use Rattle.std.proofs.lemmas.Slice.Eq.{strip_prefix_is}
use Rattle.tml_span.proofs.ClosedUnits.{past_body_by_length, lead_doctype, doctype_unnamed, doctype_unclosed, doctype_finds}
use Rattle.tml_span.proofs.enclosed.doctype_at.Goals as goal

pub returns-then-not-begins_with_word-clause-unit : goal.returns-then-not-begins_with_word-clause-unit
returns-then-not-begins_with_word-clause-unit c =
    doctype_unnamed _ _ (lead_doctype c.args.bytes.now c.requires.prefix c.requires.other) (λ h. false≢true (c.if-not-begins_with_word.ensures.1 h))

pub returns-in_err-rest-clause-unit : goal.returns-in_err-rest-clause-unit
returns-in_err-rest-clause-unit c =
    let end = c.split_at-2.result.1.now in
    let is = past_body_by_length c.args.bytes.now c.split_at.result.1.now end _ c.split_at.ensures.back c.doctype_len.ensures.len c.split_at-2.ensures.back in
    rw c.from_residual.ensures (doctype_unclosed _ _ end (lead_doctype c.args.bytes.now c.requires.prefix c.requires.other) is (strip_prefix_is Decides-eqb end (codes ">") None c.in_err-rest.ensures.cases))

pub returns-clause-unit : goal.returns-clause-unit
returns-clause-unit c =
    let end = c.split_at-2.result.1.now in
    let is = past_body_by_length c.args.bytes.now c.split_at.result.1.now end _ c.split_at.ensures.back c.doctype_len.ensures.len c.split_at-2.ensures.back in
    doctype_finds _ _ end _ _ (c.if-not-begins_with_word.ensures.0 refl) is (strip_prefix_is Decides-eqb end (codes ">") (Some c.in_ok-rest.rest) c.in_ok-rest.ensures.cases) c.split_at-3.ensures.front
