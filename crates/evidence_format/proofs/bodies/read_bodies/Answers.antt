use Rattle.std.proofs.Common.{◌≤◌, length, subst}
use Rattle.evidence_format.proofs.Reading.{bundles}
use Rattle.line_texts.proofs.Reading.{is_found}
use Rattle.evidence_format.proofs.Claims.{few_claims}
use Rattle.evidence_format.proofs.bodies.read_bodies.Goals as goal

pub returns-in-Ok-clause-ok : goal.returns-in-Ok-clause-ok
returns-in-Ok-clause-ok c = let given = c.in-Ok.ensures in (given.0, is_found bundles given.0 c.args.text.now given.1, given.2)

pub returns-in-Ok-clause-few : goal.returns-in-Ok-clause-few
returns-in-Ok-clause-few c =
    let given = c.in-Ok.ensures in
    subst (λ n. n ≤ length c.args.text.now) given.2.0 (few_claims given.0 c.args.text.now (is_found bundles given.0 c.args.text.now given.1))
