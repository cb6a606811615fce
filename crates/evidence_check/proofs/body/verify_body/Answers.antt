use Rattle.std.proofs.Common.{refl, sym, ap, subst, ◌∙◌}
use Rattle.evidence_format.specs.Evidence.{PlainEvidence}
use Rattle.evidence_format.specs.View.{plain_body}
use Rattle.evidence_check.specs.Refusals.{IsRefused}
use Rattle.evidence_check.specs.Supported.{IsSupported}
use Rattle.evidence_check.proofs.Bundles.{refused_next}
use Rattle.evidence_check.proofs.Cites.{same_clash}
use Rattle.evidence_check.proofs.Soundness.{supported_is_true}
use Rattle.evidence_check.proofs.Verdicts.{one_verdict}
use Rattle.evidence_check.proofs.body.verify_body.Goals as goal

-- the clash that is accepted is supported
supported : (c : goal.In-Ok) → IsSupported c.args.net.now (plain_body c.args.body.now)
supported c =
    let same = same_clash c.in-Clash.cites c.as_slice.result.now c.in-Clash.walk c.as_slice-in-Clash.result.now c.in-Clash.spares c.in-Clash.spares c.as_slice.ensures c.as_slice-in-Clash.ensures refl ∙ sym (ap plain_body c.in-Clash.is) in
    subst (IsSupported c.args.net.now) same c.in-Ok.ensures.ok

-- the clash that is refused is refused for this reason
refused : (c : goal.In-Err) → IsRefused c.args.net.now (plain_body c.args.body.now) c.in-Err.refused
refused c =
    let same = same_clash c.in-Clash.cites c.as_slice.result.now c.in-Clash.walk c.as_slice-in-Clash.result.now c.in-Clash.spares c.in-Clash.spares c.as_slice.ensures c.as_slice-in-Clash.ensures refl ∙ sym (ap plain_body c.in-Clash.is) in
    subst (λ (e : PlainEvidence). IsRefused c.args.net.now e c.in-Err.refused) same c.in-Err.ensures.err

pub returns-in-Ok-clause-supported : goal.returns-in-Ok-clause-supported
returns-in-Ok-clause-supported c = (λ is. supported c, λ too. refl)

pub returns-in-Ok-clause-sound : goal.returns-in-Ok-clause-sound
returns-in-Ok-clause-sound c = supported_is_true c.args.net.now (plain_body c.args.body.now) (supported c)

pub returns-in-Err-clause-supported : goal.returns-in-Err-clause-supported
returns-in-Err-clause-supported c = (
  (λ is. absurd (let e = is in cc)),
  (λ holds. absurd ((one_verdict c.args.net.now (plain_body c.args.body.now)).not_both c.in-Err.refused holds (refused c))),
)

pub returns-in-Err-clause-err : goal.returns-in-Err-clause-err
returns-in-Err-clause-err c = λ es all count. refused_next c.args.net.now es (plain_body c.args.body.now) c.args.claim c.in-Err.refused all count (refused c)
