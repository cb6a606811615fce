use Rattle.std.proofs.Common.{◌≡◌, ◌↔◌, ℕ, ◌<◌, Bool, true, false, List, inl, inr, length, replicate, ap, subst, sym, ◌∙◌, arith}
use Rattle.std.specs.Vec.{with_items}
use Rattle.std.proofs.lemmas.List.{get_or-replicate, length-replicate, with_items_is}
use Rattle.net_core.specs.Walks.{GoesOver, IsClosedWalk, Kept}
use Rattle.net_core.specs.declared.step.Step.{Step}
use Rattle.net_orders.specs.Orders.{AreStepOrders}
use Rattle.clash.proofs.ClosedWalks.{goes_from_marks}
use Rattle.clash.proofs.closed_walk.ClosedWalk.new.Goals as goal
use Rattle.clash.proofs.closed_walk.ClosedWalk.new.Goals.{After-mark_steps}

-- at first no link is marked
fresh : (c : After-mark_steps) → c.deref_mut.result.now ≡ replicate c.links.result false
fresh c = c.deref_mut.ensures.value ∙ c.in_ok-over.ensures.items_if_clones_equal (λ y e. e)

size : (c : After-mark_steps) → length c.mark_steps.new.marks ≡ length c.args.net.now.links
size c = c.mark_steps.ensures.length ∙ (ap (λ (marks : List Bool). length marks) (fresh c) ∙ (length-replicate c.links.result false ∙ c.links.ensures.count))

-- then those that the steps go over
over : (c : After-mark_steps) (k : ℕ) → k < length c.args.net.now.links → Kept c.mark_steps.new.marks k ↔ GoesOver c.args.walk k
over c k below =
    let marked = c.mark_steps.ensures.marked k (omega (arith, below, size c)) in
    subst (λ (steps : List Step). Kept c.mark_steps.new.marks k ↔ GoesOver steps k) c.as_slice.ensures (
      λ kept. elim (marked.0 kept) [
        | inl was ↦
            let old : Kept (replicate c.links.result false) k = subst (λ (marks : List Bool). Kept marks k) (fresh c) was in
            absurd (let e = get_or-replicate c.links.result k false false (omega (arith, below, c.links.ensures.count)) in let both : false ≡ true = sym e ∙ old in cc)
        | inr gone ↦ gone
      ],
      λ gone. marked.1 (inr gone),
    )

-- what the marks are
abbrev AreMarks : After-mark_steps → List Bool → Type 0
AreMarks c marks =
    (length marks ≡ length c.args.net.now.links) × IsClosedWalk c.args.net.now (Kept marks) c.args.walk × ((k : ℕ) → k < length c.args.net.now.links → Kept marks k ↔ GoesOver c.args.walk k)

pub returns-clause-closed : goal.returns-clause-closed
returns-clause-closed c =
    let here = (goal.at.returns-clause-closed c).After-mark_steps in
    let marks = here.mark_steps.new.marks in
    let long : length marks ≡ c.in_ok-over.over.len = here.mark_steps.ensures.length ∙ here.deref_mut.ensures.len in
    let all : AreMarks here (with_items c.in_ok-over.over marks).items =
    subst (AreMarks here) (sym (with_items_is c.in_ok-over.over marks long)) (size here, goes_from_marks c.args.net.now c.args.walk marks c.requires.goes (over here), over here) in
    record {
      size = all.0;
      goes = all.1;
      over = all.2;
      short = c.requires.short;
      orders = subst (λ (steps : List Step). AreStepOrders c.args.net.now steps c.in_ok-orders.orders) c.as_slice-2.ensures c.in_ok-orders.ensures;
    }
