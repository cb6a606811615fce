use Rattle.std.proofs.Common.{List, subst, take, arith}
use Rattle.std.proofs.lemmas.List.{take_all}
use Rattle.evidence_check.specs.Pairs.{HaveSame}
use Rattle.evidence_check.specs.declared.pairs.Pair.{Pair}
use Rattle.evidence_check.proofs.PairSets.{moved_again, moved_more}
use Rattle.evidence_check.proofs.pairs.first_of_each.Goals.{then-not-ends_with, else-not-ends_with}
use Rattle.evidence_check.proofs.pairs.first_of_each.Goals as goal

pub loop-k-preserved : goal.loop-k-preserved
loop-k-preserved c =
    let old = c.args.pairs.now in
    let pairs = c.loop-k.pairs in
    let k = c.loop-k.k in
    let kept = c.loop-k.kept in
    let none : Pair = record { first = 0; second = 0 } in
    record {
      end = c.loop-k.invariant.end;
      moved = elim c.if-not-ends_with.branch [
        | then-not-ends_with w ↦ moved_more old pairs k kept c.loop-k.invariant.moved c.loop-k-test.true none c.if-not-ends_with.pairs c.if-not-ends_with.kept w.pairs-is w.kept-is
        | else-not-ends_with w ↦ moved_again old pairs k kept c.loop-k.invariant.moved c.loop-k-test.true none c.if-not-ends_with.pairs c.if-not-ends_with.kept (c.ends_with.ensures w.if-not-ends_with.false) w.pairs-is w.kept-is
      ];
    }

pub returns-clause-same : goal.returns-clause-same
returns-clause-same c =
    subst (λ (l : List Pair). HaveSame l (take c.loop-k.kept c.loop-k.pairs)) (take_all c.loop-k.k c.args.pairs.now (omega (arith, c.loop-k-test.false))) c.loop-k.invariant.moved.same
