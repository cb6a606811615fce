use Rattle.std.proofs.Common.{[], ◌∷◌, ◌++◌, length-append, refl, ap, subst, ◌∙◌, arith}
use Rattle.evidence_format.specs.Bundles.{IsTextOfEither}
use Rattle.evidence_format.specs.View.{plain_body}
use Rattle.evidence_answers.proofs.Judging.{no_error}
use Rattle.evidence_answers.proofs.judged.judged_claims.Goals as goal

pub loop-number-init : goal.loop-number-init
loop-number-init c = ([], c.in_ok-claims.ensures.ok, c.in_ok-claims.ensures.text, omega arith, refl, c.none-judged.ensures c.args.document.now c.args.net.now)

pub loop-number-preserved : goal.loop-number-preserved
loop-number-preserved c =
    let so_far = c.loop-number.invariant in
    let es = so_far.0 in
    let all = es ++ plain_body c.in_ok-claim.claim ∷ [] in
    let next = c.in_ok-claim.ensures in
    let added = no_error _ c.add-in-loop-number.result c.if-is_err.ensures.value c.add-in-loop-number.ensures in (
      all,
      next.ok es so_far.1,
      ap (λ text. text.now) next.text ∙ so_far.2,
      omega (arith, so_far.3, next.left, c.loop-number-test.true),
      omega (arith, so_far.4, length-append es (plain_body c.in_ok-claim.claim ∷ [])),
      added es so_far.5 so_far.4,
    )

pub returns-clause-ok : goal.returns-clause-ok
returns-clause-ok c =
    let so_far = c.loop-number.invariant in
    (so_far.0, subst (IsTextOfEither so_far.0) so_far.2 (c.in_ok-finish.ensures.ok so_far.0 so_far.1), so_far.5)
