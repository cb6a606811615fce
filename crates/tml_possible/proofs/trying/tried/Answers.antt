use Rattle.std.proofs.Common.{subst, arith}
use Rattle.net_core.specs.Relations.{Holds}
use Rattle.net_core.specs.declared.net.Ends.{Ends}
use Rattle.tml_possible.specs.Sets.{AreMore}
use Rattle.tml_possible.specs.Trying.{AreKeptAmong}
use Rattle.tml_possible.proofs.Growing.{all_tried, kept_next, not_kept_next}
use Rattle.tml_possible.proofs.trying.tried.Goals as goal
use Rattle.tml_possible.proofs.trying.tried.Goals.{then-are_kept, else-are_kept}

pub loop-code-preserved : goal.loop-code-preserved
loop-code-preserved c =
    let table = c.args.closed.now in
    let a = c.args.a in
    let b = c.args.b in
    let same = c.ranks_of.ensures in
    let so_far = c.loop-code.invariant.set in record {
      set = elim c.if-are_kept.branch [
        | then-are_kept w ↦
            let new = w.with_holding-set.result in
            let kept = subst (λ (e : Ends × Ends). AreKeptAmong table a b e.0 e.1) same (c.are_kept.ensures.0 w.if-are_kept.true) in
            let more = subst (λ (e : Ends × Ends). AreMore c.loop-code.set (λ r. Holds e.0 r e.1) new) same w.with_holding-set.ensures in
            rw w.set-is (kept_next table a b c.loop-code.code c.loop-code.set so_far new kept more)
        | else-are_kept w ↦
            let not = subst (λ (e : Ends × Ends). ¬ AreKeptAmong table a b e.0 e.1) same (λ kept. let yes = c.are_kept.ensures.1 kept in let no = w.if-are_kept.false in cc) in
            rw w.set-is (not_kept_next table a b c.loop-code.code c.loop-code.set so_far not)
      ];
    }

pub returns : goal.returns
returns c = all_tried c.args.closed.now c.args.a c.args.b c.loop-code.code c.loop-code.set c.points.ensures.closed c.requires.a c.requires.b (omega (arith, c.loop-code-test.false)) c.loop-code.invariant.set
