use Rattle.std.proofs.Common.{IsOk, rules}
use Rattle.evidence_format.specs.View.{plain_body}
use Rattle.evidence_answers.proofs.Naming.{names_intervals}
use Rattle.evidence_answers.proofs.judged.Judged.add.Goals as goal

pub push_claim-requires : goal.push_claim-requires
push_claim-requires c =
    let ok : IsOk c.verify_body.result = rw c.in-Ok.is (search rules) in
    names_intervals c.args.document.now c.args.net.now (plain_body c.args.claim.now) c.requires.built (c.verify_body.ensures.supported.0 ok)
