use Rattle.std.proofs.Common.{List, inr, subst}
use Rattle.std.proofs.lemmas.Result.{err_from_is_err_and}
use Rattle.net_core.specs.declared.atom.Atom.{Atom}
use Rattle.evidence_check.specs.Refusals.{IsWalkRefused}
use Rattle.evidence_check.proofs.checker.check_entailment.Goals as goal

pub returns-in_err-prove_all-clause-err : goal.returns-in_err-prove_all-clause-err
returns-in_err-prove_all-clause-err c =
    let p = err_from_is_err_and c.from_residual-in_err-prove_all.result c.from_residual-in_err-prove_all.ensures.1 in
    let both = rw c.in_ok-check_numbers.was at c.check_numbers.ensures.ok in
    rw (p.1, p.2) (inr (both, subst (λ (atoms : List Atom). IsWalkRefused c.args.net.now atoms c.args.walks.now c.in_err-prove_all.field-0.0) c.atoms_of.ensures c.in_err-prove_all.ensures.err))
