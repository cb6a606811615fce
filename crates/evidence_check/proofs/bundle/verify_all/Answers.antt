use Rattle.std.proofs.Common.{◌<◌, length, map, take, refl, subst, arith}
use Rattle.std.proofs.lemmas.List.{length-map, take_all}
use Rattle.std.proofs.lemmas.Result.{err_from_is_err_and}
use Rattle.evidence_format.specs.View.{plain}
use Rattle.evidence_check.specs.Bundles.{AreSupported, IsFirstRefused}
use Rattle.evidence_check.proofs.Bundles.{claim_fits, claims_before, supported_next, refused_of_all, not_supported, all_true}
use Rattle.evidence_check.proofs.bundle.verify_all.Goals as goal

pub verify_next-requires-clause-well_formed : goal.verify_next-requires-clause-well_formed
verify_next-requires-clause-well_formed c = claim_fits c.args.bundle.now c.loop-k.k c.claim.result.now (omega (arith, c.loop-k-test.true, c.loop-k.invariant.end)) c.claim.ensures c.requires

-- the claim that is refused is the first
first_refused : (c : goal.After-from_residual) → IsFirstRefused c.args.net.now (map plain c.args.bundle.now) c.in_err-verify_next.field-0.0
first_refused c =
    let claims = c.args.bundle.now in
    let k = c.loop-k.k in
    let below : k < length claims = omega (arith, c.loop-k-test.true, c.loop-k.invariant.end) in
    let first = c.in_err-verify_next.ensures.err (take k (map plain claims)) c.loop-k.invariant.so_far (claims_before claims k below) in
    refused_of_all c.args.net.now claims k c.claim.result.now c.in_err-verify_next.field-0.0 below c.claim.ensures first

pub returns-in_err-verify_next-clause-supported : goal.returns-in_err-verify_next-clause-supported
returns-in_err-verify_next-clause-supported c =
    let p = err_from_is_err_and c.from_residual.result c.from_residual.ensures.1 in
    rw p.1 (λ is. absurd (let e = is in cc), λ all. absurd (not_supported c.args.net.now (map plain c.args.bundle.now) _ (first_refused c) all))

pub returns-in_err-verify_next-clause-err : goal.returns-in_err-verify_next-clause-err
returns-in_err-verify_next-clause-err c =
    let p = err_from_is_err_and c.from_residual.result c.from_residual.ensures.1 in
    rw (p.1, p.2) (first_refused c)

pub loop-k-preserved : goal.loop-k-preserved
loop-k-preserved c =
    let below : c.loop-k.k < length c.args.bundle.now = omega (arith, c.loop-k-test.true, c.loop-k.invariant.end) in
    let supported = c.in_ok-verify_next.ensures.supported.0 refl in
    record {
      end = c.loop-k.invariant.end;
      so_far = supported_next c.args.net.now c.args.bundle.now c.loop-k.k c.claim.result.now below c.claim.ensures c.loop-k.invariant.so_far supported;
    }

-- all claims are supported
supported : (c : goal.After-loop-k) → AreSupported c.args.net.now (map plain c.args.bundle.now)
supported c =
    let es = map plain c.args.bundle.now in
    let len = length-map c.args.bundle.now plain in
    subst (AreSupported c.args.net.now) (take_all c.loop-k.k es (omega (arith, len, c.loop-k.invariant.end, c.loop-k-test.false))) c.loop-k.invariant.so_far

pub returns-clause-supported : goal.returns-clause-supported
returns-clause-supported c = (λ is. supported c, λ all. refl)

pub returns-clause-sound : goal.returns-clause-sound
returns-clause-sound c = all_true c.args.net.now (map plain c.args.bundle.now) (supported c)
