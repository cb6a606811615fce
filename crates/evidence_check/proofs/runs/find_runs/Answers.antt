use Rattle.std.proofs.Common.{ℕ, ◌<◌, [], length, take, ap, sym, subst, length-drop, arith}
use Rattle.std.proofs.lemmas.List.{append-nil}
use Rattle.evidence_check.specs.Pairs.{AreRuns, IsRun}
use Rattle.evidence_check.specs.declared.pairs.Pair.{Pair}
use Rattle.evidence_check.proofs.RunLaws.{run_of, runs_more, some_pair}
use Rattle.evidence_check.proofs.runs.find_runs.Goals as goal

pub loop-rest-preserved : goal.loop-rest-preserved
loop-rest-preserved c =
    let so_far = c.loop-rest.invariant in
    let rest = c.loop-rest.rest.now in
    let len = c.run_len-len.result in
    let none : Pair = record { first = 0; second = 0 } in
    let is = c.run_len-len.ensures.len in
    let back = c.split_at.ensures.back in
    let some : 0 < len = subst (λ (n : ℕ). 0 < n) (sym is) (some_pair rest none c.in-len1-up.len_at_least) in
    let run : IsRun (take len rest) = subst (λ (n : ℕ). IsRun (take n rest)) (sym is) (run_of rest none c.in-len1-up.len_at_least) in
    record {
      few = omega (arith, some, so_far.few, ap length back, length-drop len rest);
      runs = λ more are. runs_more c.loop-rest.lens c.loop-rest.runs len c.args.pairs.now rest (omega (arith, so_far.few, c.in-len1-up.len_at_least, c.requires.room, c.loop-rest.auto.lens)) c.run_len-len.ensures.within run so_far.runs more (subst (AreRuns more) back are);
    }

pub returns-clause-runs : goal.returns-clause-runs
returns-clause-runs c = subst (λ lens. AreRuns lens c.args.pairs.now) (append-nil (take c.loop-rest.runs c.loop-rest.lens)) (c.loop-rest.invariant.runs [] tt)
