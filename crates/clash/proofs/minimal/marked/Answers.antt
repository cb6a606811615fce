use Rattle.std.proofs.Common.{◌≡◌, ◌+◌, true, false, sym, subst, ◌∙◌, arith}
use Rattle.clash.proofs.MarkedLinks.{AreMarked, kept_within, marked_push, marked_skip}
use Rattle.clash.proofs.minimal.marked.Goals as goal
use Rattle.clash.proofs.minimal.marked.Goals.{then-marks-link+in_ok-push, else-marks-link}

pub loop-link-preserved : goal.loop-link-preserved
loop-link-preserved c =
    let marks = c.args.marks.now in
    let k = c.loop-link.link in
    let old = c.loop-link.invariant in
    let more : AreMarked marks (k + 1) c.if-marks-link.links = elim c.if-marks-link.branch [
      | then-marks-link+in_ok-push w ↦ subst (AreMarked marks (k + 1)) (sym (w.links-is ∙ w.in_ok-push.ensures.ok)) (marked_push marks k c.loop-link.links old.1 w.if-marks-link.true)
      | else-marks-link w ↦
          subst (AreMarked marks (k + 1)) (sym w.links-is) (marked_skip marks k c.loop-link.links old.1 (λ kept. let both : false ≡ true = sym w.if-marks-link.false ∙ kept in cc))
    ] in
    (old.0, more)

pub returns-clause-exact : goal.returns-clause-exact
returns-clause-exact c k =
    let are = c.loop-link.invariant.1 in (
      λ has. ((are.exact k).0 has).1,
      λ kept. (are.exact k).1 (omega (arith, kept_within c.args.marks.now k kept, c.requires, c.loop-link.invariant.0, c.loop-link-test.false), kept),
    )
