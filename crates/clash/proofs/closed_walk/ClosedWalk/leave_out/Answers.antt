use Rattle.std.proofs.Common.{◌≡◌, ◌↔◌, ℕ, ◌*◌, ◌<◌, ◌≤◌, Bool, true, false, List, Option, length, slice_set, refl, sym, subst}
use Rattle.std.specs.Option.{IfNone, IfSome}
use Rattle.net_core.specs.Clashes.{Others}
use Rattle.net_core.specs.Fits.{EveryLink}
use Rattle.net_core.specs.Nets.{points}
use Rattle.net_core.specs.Walks.{GoesOver, IsClosedWalk, Kept}
use Rattle.net_core.specs.declared.step.Step.{Step}
use Rattle.net_core.specs.declared.walk.Walk.{Walk}
use Rattle.net_core.proofs.StepLaws.{fits_fewer}
use Rattle.net_core.proofs.WalkLaws.{closed_walk_more}
use Rattle.clash.specs.Minimal.{IsSpared}
use Rattle.clash.proofs.ClosedWalks.{marked_chosen, no_closed_walk, others_set, set_again, set_others, spared_fewer}
use Rattle.clash.proofs.closed_walk.ClosedWalk.leave_out.Goals as goal
use Rattle.clash.proofs.closed_walk.ClosedWalk.leave_out.Goals.{After-drop-self-in-Some-2, After-index_mut-in-None, In-Some}

-- the links but the one that is left out
omitted : (c : In-Some) (k : ℕ) → Kept c.deref.result.now k → Others (Kept c.args.self.now.over.items) c.args.link k
omitted c k kept = set_others c.args.self.now.over.items c.args.link k (subst (λ (marks : List Bool). Kept marks k) c.deref.ensures.value kept)

goes : (c : In-Some) → IsClosedWalk c.args.net.now (Kept c.deref.result.now) c.in-Some.walk
goes c = (subst (λ (o : Option Walk). IfSome o (λ steps. IsClosedWalk c.args.net.now (Kept c.deref.result.now) steps × (length steps ≤ 2 * points c.args.net.now))) c.in-Some.is c.in_ok-walk.ensures.some).0

pub new-requires-clause-goes : goal.new-requires-clause-goes
new-requires-clause-goes c = closed_walk_more c.args.net.now (Kept c.deref.result.now) EveryLink c.in-Some.walk (λ k kept. tt) (goes c)

-- the links that the new walk goes over are among those
among : (c : After-drop-self-in-Some-2) (k : ℕ) → Kept c.in_ok-self-in-Some.field-0.over.items k → Others (Kept c.args.self.now.over.items) c.args.link k
among c k kept =
    let here = (goal.at.After-drop-self-in-Some-2 c).In-Some in
    omitted here k (marked_chosen c.args.net.now (Kept c.deref.result.now) c.in_ok-self-in-Some.field-0 c.in_ok-self-in-Some.ensures.closed
    (subst (IsClosedWalk c.args.net.now (Kept c.deref.result.now)) (sym c.in_ok-self-in-Some.ensures.walk) (goes here)) k kept)

pub returns-in_ok-self-in-Some-clause-fewer : goal.returns-in_ok-self-in-Some-clause-fewer
returns-in_ok-self-in-Some-clause-fewer c k kept = (among c k kept).0

pub returns-in_ok-self-in-Some-clause-spared : goal.returns-in_ok-self-in-Some-clause-spared
returns-in_ok-self-in-Some-clause-spared c kept = absurd ((among c c.args.link kept).1 refl)

-- the marks are as they were
same : (c : After-index_mut-in-None) → slice_set (slice_set c.args.self.now.over.items c.args.link false) c.args.link true ≡ c.args.self.now.over.items
same c = set_again c.args.self.now.over.items c.args.link c.requires.link

-- what is true of the walk and its old marks
abbrev AreMarks : After-index_mut-in-None → List Bool → Type 0
AreMarks c marks =
    (length marks ≡ length c.args.net.now.links) × IsClosedWalk c.args.net.now (Kept marks) c.args.self.now.walk
    × ((k : ℕ) → k < length c.args.net.now.links → Kept marks k ↔ GoesOver c.args.self.now.walk k)

pub returns-in-None-clause-closed : goal.returns-in-None-clause-closed
returns-in-None-clause-closed c =
    let here = (goal.at.returns-in-None-clause-closed c).After-index_mut-in-None in
    let old = c.requires.closed in
    let all = subst (AreMarks here) (sym (same here)) (old.size, old.goes, old.over) in
    record { size = all.0; goes = all.1; over = all.2; short = old.short; orders = old.orders }

pub returns-in-None-clause-spared : goal.returns-in-None-clause-spared
returns-in-None-clause-spared c kept =
    let here = (goal.at.returns-in-None-clause-spared c).After-index_mut-in-None in
    let net = c.args.net.now in
    let old = c.args.self.now.over.items in
    let keep = c.deref.result.now in
    let fewer = λ (k : ℕ) (kept : Kept keep k). set_others old c.args.link k (subst (λ (marks : List Bool). Kept marks k) c.deref.ensures.value kept) in
    let not = subst (λ (o : Option Walk). IfNone o ((steps : List Step) → IsClosedWalk net (Kept keep) steps → GoesOver steps c.args.needed → ⊥)) c.in-None.is c.in_ok-walk.ensures.none in
    let fits = no_closed_walk net keep c.args.needed c.links.ensures.net (spared_fewer net (Kept old) (Kept keep) c.args.needed (λ k kept. (fewer k kept).0) c.requires.spared) not in
    subst (λ (marks : List Bool). IsSpared net (Kept marks) c.args.link) (sym (same here))
    (fits.0, fits_fewer net (Kept keep) (Others (Kept old) c.args.link) fits.0 (λ k below other. subst (λ (marks : List Bool). Kept marks k) (sym c.deref.ensures.value) (others_set old c.args.link k other)) fits.1)
