use Rattle.std.proofs.Common.{◌≡◌, List, map, OnOk, IfErr, ap, sym, subst, ◌∙◌}
use Rattle.net_core.specs.declared.step.Step.{Step}
use Rattle.evidence_format.specs.Evidence.{PlainEvidence, clash, entails}
use Rattle.evidence_format.specs.View.{plain}
use Rattle.evidence_check.specs.Refusals.{IsRefused}
use Rattle.evidence_check.specs.Supported.{IsSupported}
use Rattle.net_core.specs.Ranks.{pairs_of}
use Rattle.evidence_check.proofs.Cites.{same_clash}
use Rattle.evidence_check.proofs.checker.verify_by.Goals as goal

-- the entailment that was checked is that of the evidence
same_entailment : (c : goal.After-check_entailment) → entails c.in-Entails.a c.in-Entails.rel c.in-Entails.b c.as_slice.result.now ≡ plain c.args.evidence.now
same_entailment c = ap (λ (walks : List (List Step)). entails c.in-Entails.a c.in-Entails.rel c.in-Entails.b walks) c.as_slice.ensures ∙ sym (ap plain c.in-Entails.is)

pub returns-in-Entails-clause-ok : goal.returns-in-Entails-clause-ok
returns-in-Entails-clause-ok c = subst (λ (e : PlainEvidence). OnOk c.check_entailment.result (IsSupported c.args.net.now e)) (same_entailment c) c.check_entailment.ensures.ok

pub returns-in-Entails-clause-err : goal.returns-in-Entails-clause-err
returns-in-Entails-clause-err c = subst (λ (e : PlainEvidence). IfErr c.check_entailment.result (IsRefused c.args.net.now e)) (same_entailment c) c.check_entailment.ensures.err

-- the clash that was checked is that of the evidence
same_evidence : (c : goal.After-check_clash) → clash c.as_slice-in-Clash.result.now c.as_slice-in-Clash-2.result.now (map pairs_of c.as_slice-in-Clash-3.result.now) ≡ plain c.args.evidence.now
same_evidence c =
    same_clash c.in-Clash.cites c.as_slice-in-Clash.result.now c.in-Clash.walk c.as_slice-in-Clash-2.result.now c.in-Clash.spares c.as_slice-in-Clash-3.result.now
    c.as_slice-in-Clash.ensures c.as_slice-in-Clash-2.ensures c.as_slice-in-Clash-3.ensures ∙ sym (ap plain c.in-Clash.is)

pub returns-in-Clash-clause-ok : goal.returns-in-Clash-clause-ok
returns-in-Clash-clause-ok c = subst (λ (e : PlainEvidence). OnOk c.check_clash.result (IsSupported c.args.net.now e)) (same_evidence c) c.check_clash.ensures.ok

pub returns-in-Clash-clause-err : goal.returns-in-Clash-clause-err
returns-in-Clash-clause-err c = subst (λ (e : PlainEvidence). IfErr c.check_clash.result (IsRefused c.args.net.now e)) (same_evidence c) c.check_clash.ensures.err
