use Rattle.std.proofs.Common.{map, below_more, [], ◌∙◌, arith}
use Rattle.std.proofs.lemmas.List.{length-map}
use Rattle.net_core.proofs.Lent.{zip_from}
use Rattle.net_core.specs.Ranks.{pairs_of}
use Rattle.evidence_check.specs.Refusals.{IsSpareAt}
use Rattle.evidence_check.specs.Spares.{spares_of}
use Rattle.evidence_check.specs.Supported.{FitsOthers}
use Rattle.evidence_check.proofs.SpareLaws.{fits_others, spare_is, spare_is_short, spare_refused}
use Rattle.evidence_check.proofs.checker.check_spares.Goals as goal

pub fit-requires-clause-few : goal.fit-requires-clause-few
fit-requires-clause-few c = spare_is_short (spares_of c.args.spares) c.loop-i.i c.spare_at.result.now (omega (arith, c.loop-i-test.true, c.requires.one_each)) c.spare_at.ensures.ranks c.requires.ranks

pub returns-in-Err-clause-err : goal.returns-in-Err-clause-err
returns-in-Err-clause-err c =
    let spares = spares_of c.args.spares in
    let i = c.loop-i.i in
    let is = spare_is spares i c.spare_at.result.now (omega (arith, c.loop-i-test.true, c.requires.one_each)) c.spare_at.ensures.ranks c.spare_at.ensures.even in
    spare_refused c.args.net.now c.args.cites.now (map pairs_of spares) i c.spare_at.result.now is c.in-Err.reason (omega (arith, c.loop-i-test.true)) c.loop-i.invariant.so_far c.in-Err.ensures.err

pub loop-i-preserved : goal.loop-i-preserved
loop-i-preserved c =
    let net = c.args.net.now in
    let cites = c.args.cites.now in
    let spares = spares_of c.args.spares in
    let i = c.loop-i.i in
    let is = spare_is spares i c.spare_at.result.now (omega (arith, c.loop-i-test.true, c.requires.one_each)) c.spare_at.ensures.ranks c.spare_at.ensures.even in
    record {
      end = c.loop-i.invariant.end;
      so_far = below_more (IsSpareAt net cites (map pairs_of spares)) i c.loop-i.invariant.so_far (fits_others net cites (map pairs_of spares) i c.spare_at.result.now is (rw c.in_default.is at c.fit.ensures.ok));
    }

pub returns-clause-ok : goal.returns-clause-ok
returns-clause-ok c =
    let cites = c.args.cites.now in
    let spares = map pairs_of (spares_of c.args.spares) in
    zip_from (FitsOthers c.args.net.now cites) 0 [] cites spares (length-map (spares_of c.args.spares) pairs_of ∙ c.requires.one_each)
    (λ i below. c.loop-i.invariant.so_far i (omega (arith, below, c.loop-i.invariant.end, c.loop-i-test.false)))
