use Rattle.std.proofs.Common.{◌≡◌, ◌↔◌, ℕ, ◌*◌, ◌<◌, ◌≤◌, Bool, List, Option, Result, Ok, Err, length, subst, sym}
use Rattle.std.specs.Option.{IfNone, IfSome}
use Rattle.std.specs.Result.{IfOk}
use Rattle.net_core.specs.Fits.{EveryLink}
use Rattle.net_core.specs.Nets.{PlainNet, points}
use Rattle.net_core.specs.Walks.{GoesOver, IsClosedWalk, Kept}
use Rattle.lists.specs.declared.memory.Memory.{Memory}
use Rattle.net_core.specs.declared.step.Step.{Step}
use Rattle.net_core.specs.declared.walk.Walk.{Walk}
use Rattle.net_core.proofs.WalkLaws.{closed_walk_more}
use Rattle.clash.specs.Minimal.{IsMarkedWalk, IsSpared, UpTo}
use Rattle.clash.specs.declared.closed_walk.ClosedWalk.{ClosedWalk}
use Rattle.clash.proofs.ClosedWalks.{first_clashes, first_spared, marked_chosen, not_none_closed_walk, spared_fewer}
use Rattle.clash.proofs.minimal.first_closed_walk.Goals as goal
use Rattle.clash.proofs.minimal.first_closed_walk.Goals.{After-closed_walk_over, In-Some}

kept : (c : After-closed_walk_over) (k : ℕ) → k < length c.args.net.now.links → Kept c.deref.result.now k ↔ UpTo c.args.link k
kept c = subst (λ (marks : List Bool). (k : ℕ) → k < length c.args.net.now.links → Kept marks k ↔ UpTo c.args.link k) (sym c.deref.ensures.value) c.in_ok-keep.ensures.kept

size : (c : After-closed_walk_over) → length c.deref.result.now ≡ length c.args.net.now.links
size c = subst (λ (marks : List Bool). length marks ≡ length c.args.net.now.links) (sym c.deref.ensures.value) c.in_ok-keep.ensures.size

goes : (c : In-Some) → IsClosedWalk c.args.net.now (Kept c.deref.result.now) c.in-Some.walk
goes c = (subst (λ (o : Option Walk). IfSome o (λ steps. IsClosedWalk c.args.net.now (Kept c.deref.result.now) steps × (length steps ≤ 2 * points c.args.net.now))) c.in-Some.is c.in_ok-walk.ensures.some).0

pub new-requires-clause-goes : goal.new-requires-clause-goes
new-requires-clause-goes c = closed_walk_more c.args.net.now (Kept c.deref.result.now) EveryLink c.in-Some.walk (λ k kept. tt) (goes c)

pub unreachable-requires : goal.unreachable-requires
unreachable-requires c =
    let here = (goal.at.unreachable-requires c).After-closed_walk_over in
    let net = c.args.net.now in
    let keep = c.deref.result.now in
    let none = subst (λ (o : Option Walk). IfNone o ((steps : List Step) → IsClosedWalk net (Kept keep) steps → GoesOver steps c.args.link → ⊥)) c.in-None.is c.in_ok-walk.ensures.none in
    not_none_closed_walk net keep c.args.link c.links.ensures.net (first_spared net c.args.link keep (size here) (kept here) c.requires) (first_clashes net c.args.link keep (size here) (kept here) c.requires) none

-- the links that the walk goes over are among those up to the first that clashes
spared : (net : PlainNet) (keep : List Bool) (link : ℕ) (walk : Walk) (result : Result ClosedWalk Memory) → IsSpared net (Kept keep) link → IsClosedWalk net (Kept keep) walk
    → IfOk result (IsMarkedWalk net) → IfOk result (λ closed. closed.walk ≡ walk) → IfOk result (λ closed. IsSpared net (Kept closed.over.items) link)
spared net keep link walk (Ok closed) first goes is same =
    spared_fewer net (Kept keep) (Kept closed.over.items) link (marked_chosen net (Kept keep) closed is (subst (IsClosedWalk net (Kept keep)) (sym same) goes)) first
spared net keep link walk (Err e) first goes is same = tt

pub returns-clause-spared : goal.returns-clause-spared
returns-clause-spared c =
    let found = (goal.at.returns-clause-spared c).In-Some in
    let here = (goal.at.returns-clause-spared c).After-closed_walk_over in
    let net = c.args.net.now in
    let keep = c.deref.result.now in
    spared net keep c.args.link c.in-Some.walk c.new.result (first_spared net c.args.link keep (size here) (kept here) c.requires) (goes found) c.new.ensures.closed c.new.ensures.walk
