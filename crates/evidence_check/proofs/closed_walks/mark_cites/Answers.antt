use Rattle.std.proofs.Common.{◌≡◌, ◌↔◌, ◌⊎◌, inl, inr, ℕ, ◌+◌, List, take, get_or, subst, arith}
use Rattle.std.specs.List.{Contains}
use Rattle.std.proofs.lemmas.List.{take_all}
use Rattle.net_core.specs.Walks.{Kept}
use Rattle.net_core.proofs.MarkLaws.{contains_more, then_more}
use Rattle.evidence_check.proofs.closed_walks.mark_cites.Goals as goal

pub loop-cite-init : goal.loop-cite-init
loop-cite-init c k below = (
  λ kept. inl kept,
  λ h. elim h [
    | inl kept ↦ kept
    | inr there ↦ absurd (omega (arith, there.1))
  ],
)

pub loop-cite-preserved : goal.loop-cite-preserved
loop-cite-preserved c k below =
    let cites = c.args.cites.now in
    let i = c.loop-cite.cite-index in
    then_more (Kept c.mark_link.new.marks k) (Kept c.loop-cite.marks k) (Kept c.args.marks.now k) (Contains (take i cites) k) (k ≡ get_or cites i 0) (Contains (take (i + 1) cites) k)
    (c.mark_link.ensures.marked k below) (c.loop-cite.invariant k (omega (arith, below, c.mark_link.ensures.length))) (contains_more cites i 0 k (omega (arith, c.loop-cite-test.true)))

pub returns-clause-marked : goal.returns-clause-marked
returns-clause-marked c k below =
    let cites = c.args.cites.now in
    subst (λ (l : List ℕ). Kept c.loop-cite.marks k ↔ (Kept c.args.marks.now k ⊎ Contains l k)) (take_all c.loop-cite.cite-index cites (omega (arith, c.loop-cite-test.false))) (c.loop-cite.invariant k below)
