use Rattle.std.proofs.Common.{◌≡◌, ◌↔◌, ◌⊎◌, inl, inr, ◌+◌, List, take, get_or, Some, subst, arith}
use Rattle.std.proofs.lemmas.List.{take_all}
use Rattle.net_core.specs.Steps.{link_of}
use Rattle.net_core.specs.Walks.{GoesOver, Kept}
use Rattle.net_core.specs.declared.step.Step.{Step}
use Rattle.net_core.specs.declared.step.Step.TheVariants.{Link}
use Rattle.net_core.proofs.MarkLaws.{goes_over_more, then_more}
use Rattle.net_core.proofs.marks.mark_steps.Goals as goal

pub loop-step-init : goal.loop-step-init
loop-step-init c k below = (
  λ kept. inl kept,
  λ h. elim h [
    | inl kept ↦ kept
    | inr over ↦ absurd (omega (arith, over.1.1))
  ],
)

pub loop-step-preserved : goal.loop-step-preserved
loop-step-preserved c k below =
    let steps = c.args.steps.now in
    let i = c.loop-step.step-index in
    let step = get_or steps i (Link 0 0) in
    then_more (Kept c.mark_step.new.marks k) (Kept c.loop-step.marks k) (Kept c.args.marks.now k) (GoesOver (take i steps) k) (link_of step ≡ Some k) (GoesOver (take (i + 1) steps) k)
    (c.mark_step.ensures.marked k below) (c.loop-step.invariant k (omega (arith, below, c.mark_step.ensures.length))) (goes_over_more steps i (Link 0 0) (omega (arith, c.loop-step-test.true)) k)

pub returns-clause-marked : goal.returns-clause-marked
returns-clause-marked c k below =
    let steps = c.args.steps.now in
    subst (λ (l : List Step). Kept c.loop-step.marks k ↔ (Kept c.args.marks.now k ⊎ GoesOver l k)) (take_all c.loop-step.step-index steps (omega (arith, c.loop-step-test.false))) (c.loop-step.invariant k below)
