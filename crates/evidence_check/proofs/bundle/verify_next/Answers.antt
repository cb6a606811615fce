use Rattle.std.proofs.Common.{refl}
use Rattle.evidence_format.specs.View.{plain}
use Rattle.evidence_check.specs.Supported.{IsSupported}
use Rattle.evidence_check.proofs.Bundles.{refused_next}
use Rattle.evidence_check.proofs.Soundness.{supported_is_true}
use Rattle.evidence_check.proofs.Verdicts.{one_verdict}
use Rattle.evidence_check.proofs.bundle.verify_next.Goals as goal

-- the evidence that is accepted is supported
supported : (c : goal.In-Ok) → IsSupported c.args.net.now (plain c.args.evidence.now)
supported c = rw c.in-Ok.is at c.verify_by.ensures.ok

pub returns-in-Ok-clause-supported : goal.returns-in-Ok-clause-supported
returns-in-Ok-clause-supported c = (λ is. supported c, λ too. refl)

pub returns-in-Ok-clause-sound : goal.returns-in-Ok-clause-sound
returns-in-Ok-clause-sound c = supported_is_true c.args.net.now (plain c.args.evidence.now) (supported c)

pub returns-in-Err-clause-supported : goal.returns-in-Err-clause-supported
returns-in-Err-clause-supported c = (
  (λ is. absurd (let e = is in cc)),
  (λ holds. absurd ((one_verdict c.args.net.now (plain c.args.evidence.now)).not_both c.in-Err.refused holds c.in-Err.ensures.err)),
)

pub returns-in-Err-clause-err : goal.returns-in-Err-clause-err
returns-in-Err-clause-err c = λ es all count. refused_next c.args.net.now es (plain c.args.evidence.now) c.args.claim c.in-Err.refused all count c.in-Err.ensures.err
