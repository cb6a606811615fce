use Rattle.std.proofs.Common.{◌≡◌, ◌↔◌, List, IsOk, OnOk, ap, sym, subst, ◌∙◌}
use Rattle.net_core.specs.declared.step.Step.{Step}
use Rattle.evidence_format.specs.Evidence.{PlainEvidence, entails}
use Rattle.evidence_format.specs.View.{plain}
use Rattle.evidence_check.specs.Supported.{IsSupported}
use Rattle.evidence_check.proofs.Soundness.{can_fail_where_ok, clashes_where_ok, follows_where_ok, true_where_ok}
use Rattle.evidence_check.proofs.Verdicts.{ok_exactly}
use Rattle.evidence_check.proofs.checker.verify.Goals as goal

-- the entailment that was checked is that of the evidence
same_entailment : (c : goal.After-check_entailment) → entails c.in-Entails.a c.in-Entails.rel c.in-Entails.b c.as_slice.result.now ≡ plain c.args.evidence.now
same_entailment c = ap (λ (walks : List (List Step)). entails c.in-Entails.a c.in-Entails.rel c.in-Entails.b walks) c.as_slice.ensures ∙ sym (ap plain c.in-Entails.is)

pub returns-in-Entails-clause-supported : goal.returns-in-Entails-clause-supported
returns-in-Entails-clause-supported c =
    subst (λ (e : PlainEvidence). IsOk c.check_entailment.result ↔ IsSupported c.args.net.now e) (same_entailment c)
    (ok_exactly c.check_entailment.result c.args.net.now (entails c.in-Entails.a c.in-Entails.rel c.in-Entails.b c.as_slice.result.now) c.check_entailment.ensures.ok c.check_entailment.ensures.err)

pub returns-in-Entails-clause-sound : goal.returns-in-Entails-clause-sound
returns-in-Entails-clause-sound c =
    true_where_ok c.check_entailment.result c.args.net.now (plain c.args.evidence.now)
    (subst (λ (e : PlainEvidence). OnOk c.check_entailment.result (IsSupported c.args.net.now e)) (same_entailment c) c.check_entailment.ensures.ok)

pub returns-in-Entails-clause-follows : goal.returns-in-Entails-clause-follows
returns-in-Entails-clause-follows c =
    follows_where_ok c.check_entailment.result c.args.net.now (plain c.args.evidence.now) (returns-in-Entails-clause-sound c)

pub returns-clause-supported : goal.returns-clause-supported
returns-clause-supported c = ok_exactly c.verify_by.result c.args.net.now (plain c.args.evidence.now) c.verify_by.ensures.ok c.verify_by.ensures.err

pub returns-clause-sound : goal.returns-clause-sound
returns-clause-sound c = true_where_ok c.verify_by.result c.args.net.now (plain c.args.evidence.now) c.verify_by.ensures.ok

pub returns-clause-follows : goal.returns-clause-follows
returns-clause-follows c = follows_where_ok c.verify_by.result c.args.net.now (plain c.args.evidence.now) (returns-clause-sound c)

pub returns-clause-can_fail : goal.returns-clause-can_fail
returns-clause-can_fail c = can_fail_where_ok c.verify_by.result c.args.net.now (plain c.args.evidence.now) (returns-clause-sound c)

pub returns-clause-clashes : goal.returns-clause-clashes
returns-clause-clashes c = clashes_where_ok c.verify_by.result c.args.net.now (plain c.args.evidence.now) (returns-clause-sound c)
