use Rattle.std.proofs.Common.{map, subst}
use Rattle.std.proofs.lemmas.List.{length-map}
use Rattle.std.proofs.lemmas.Result.{err_from_is_err_and}
use Rattle.evidence_format.specs.Bundles.{IsCount}
use Rattle.evidence_format.specs.View.{plain}
use Rattle.evidence_format.proofs.Reading.{bundles}
use Rattle.line_texts.proofs.Reading.{none_reads, one_of_texts, tells}
use Rattle.evidence_format.proofs.Claims.{count_of, few_claims, well_formed_claims}
use Rattle.evidence_format.proofs.bundle.read_bundle.Goals as goal

pub from_vec-requires : goal.from_vec-requires
from_vec-requires c =
    let claims = c.in_ok-claims.claims.items in
    subst IsCount (length-map claims plain) (count_of (map plain claims) c.args.text.now c.in_ok-claims.ensures.ok)

pub returns-clause-ok : goal.returns-clause-ok
returns-clause-ok c = rw c.from_vec.ensures c.in_ok-claims.ensures.ok

pub returns-clause-only : goal.returns-clause-only
returns-clause-only c = λ es h. rw c.from_vec.ensures (one_of_texts bundles (map plain c.in_ok-claims.claims.items) es c.args.text.now c.in_ok-claims.ensures.ok h)

pub returns-clause-few : goal.returns-clause-few
returns-clause-few c =
    let claims = c.in_ok-claims.claims.items in
    rw (c.from_vec.ensures, ← length-map claims plain) (few_claims (map plain claims) c.args.text.now c.in_ok-claims.ensures.ok)

pub returns-clause-good : goal.returns-clause-good
returns-clause-good c = rw c.from_vec.ensures (well_formed_claims (map plain c.in_ok-claims.claims.items) c.args.text.now c.in_ok-claims.ensures.ok)

pub returns-in_err-claims-clause-only : goal.returns-in_err-claims-clause-only
returns-in_err-claims-clause-only c = λ es has.
    let p = err_from_is_err_and c.from_residual.result c.from_residual.ensures.1 in
    rw (p.1, p.2) (none_reads bundles (λ claims. map plain claims) c.args.text.now c.in_err-claims.field-0.0 es c.in_err-claims.ensures.err has)

pub returns-in_err-claims-clause-err : goal.returns-in_err-claims-clause-err
returns-in_err-claims-clause-err c =
    let p = err_from_is_err_and c.from_residual.result c.from_residual.ensures.1 in
    rw (p.1, p.2) (tells bundles c.args.text.now c.in_err-claims.field-0.0 c.in_err-claims.ensures.err)
