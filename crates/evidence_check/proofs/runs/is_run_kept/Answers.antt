use Rattle.std.proofs.Common.{List, subst, arith, ◌↔◌, IsTrue}
use Rattle.std.specs.List.{All}
use Rattle.std.proofs.lemmas.List.{take_all}
use Rattle.net_core.specs.Ranks.{timeline_of}
use Rattle.evidence_check.specs.Pairs.{IsKept}
use Rattle.evidence_check.specs.declared.pairs.Pair.{Pair}
use Rattle.evidence_check.proofs.PairSets.{all_further, test_more}
use Rattle.evidence_check.proofs.RunLaws.{head_is, of_run}
use Rattle.evidence_check.proofs.runs.is_run_kept.Goals as goal

pub loop-pair-preserved : goal.loop-pair-preserved
loop-pair-preserved c =
    let t = timeline_of c.args.ranks.now in
    let none : Pair = record { first = 0; second = 0 } in
    let head = head_is c.args.run.now c.in-Some.head.now (omega (arith, c.loop-pair-test.true)) c.in-Some.ensures.item.1 in
    let is = of_run c.args.order t c.args.run.now c.loop-pair.pair-index none c.in-Some.head.now c.is_kept-all.result (omega (arith, c.loop-pair-test.true)) c.requires.run head c.is_kept-all.ensures in
    test_more c.loop-pair.all c.is_kept-all.result _ _ _ c.loop-pair.invariant is (all_further (IsKept c.args.order t) c.args.run.now c.loop-pair.pair-index none (omega (arith, c.loop-pair-test.true)))

pub returns : goal.returns
returns c =
    subst (λ (l : List Pair). IsTrue c.loop-pair.all ↔ All (IsKept c.args.order (timeline_of c.args.ranks.now)) l) (take_all c.loop-pair.pair-index c.args.run.now (omega (arith, c.loop-pair-test.false))) c.loop-pair.invariant
