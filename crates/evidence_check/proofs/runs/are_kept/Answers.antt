use Rattle.std.proofs.Common.{◌+◌, ◌↔◌, length, drop, get_or, subst, sym, arith}
use Rattle.std.specs.List.{All}
use Rattle.std.proofs.lemmas.List.Elements.{All-drop}
use Rattle.net_core.specs.Ranks.{timeline_of}
use Rattle.evidence_check.specs.Pairs.{AreRuns, IsKept, IsPairWithin}
use Rattle.evidence_check.specs.declared.pairs.Pair.{Pair}
use Rattle.evidence_check.proofs.RunLaws.{in_two, runs_on, tests_on}
use Rattle.evidence_check.proofs.runs.are_kept.Goals as goal

pub loop-len-preserved : goal.loop-len-preserved
loop-len-preserved c =
    let Kept : Pair → Type 0 = IsKept c.args.order (timeline_of c.args.ranks.now) in
    let so_far = c.loop-len.invariant in
    let rest = c.loop-len.rest.now in
    let len = get_or c.args.lens.now c.loop-len.len-index 0 in
    let runs = runs_on c.args.lens.now c.loop-len.len-index rest (omega (arith, c.loop-len-test.true)) so_far.runs in
    let front = rw c.from.ensures at c.split_at.ensures.front in
    let back = rw c.from.ensures at c.split_at.ensures.back in
    let two : All Kept rest ↔ (All Kept c.split_at.result.0.now × All Kept c.split_at.result.1.now) = rw (front, back) (in_two Kept len rest) in
    record {
      within = subst (All (IsPairWithin c.args.order (length c.args.ranks.now))) (sym back) (All-drop (IsPairWithin c.args.order (length c.args.ranks.now)) len rest so_far.within);
      runs = subst (AreRuns (drop (c.loop-len.len-index + 1) c.args.lens.now)) (sym back) runs.2;
      kept = tests_on c.loop-len.all c.is_run_kept-all.result _ _ _ _ so_far.kept c.is_run_kept-all.ensures two;
    }
