use Rattle.std.proofs.Common.{List, subst, arith, ◌↔◌, IsTrue}
use Rattle.std.specs.List.{All}
use Rattle.std.proofs.lemmas.List.{take_all}
use Rattle.net_core.specs.Ranks.{timeline_of}
use Rattle.evidence_check.specs.Pairs.{IsKept}
use Rattle.evidence_check.specs.declared.pairs.Pair.{Pair}
use Rattle.evidence_check.proofs.PairSets.{all_further, test_more}
use Rattle.evidence_check.proofs.runs.is_each_kept.Goals as goal

pub loop-pair-preserved : goal.loop-pair-preserved
loop-pair-preserved c =
    test_more c.loop-pair.all c.is_kept-all.result _ _ _ c.loop-pair.invariant c.is_kept-all.ensures
    (all_further (IsKept c.args.order (timeline_of c.args.ranks.now)) c.args.pairs.now c.loop-pair.pair-index (record { first = 0; second = 0 }) (omega (arith, c.loop-pair-test.true)))

pub returns : goal.returns
returns c =
    subst (λ (l : List Pair). IsTrue c.loop-pair.all ↔ All (IsKept c.args.order (timeline_of c.args.ranks.now)) l) (take_all c.loop-pair.pair-index c.args.pairs.now (omega (arith, c.loop-pair-test.false))) c.loop-pair.invariant
