use Rattle.std.proofs.Common.{◌≡◌, ◌↔◌, subst}
use Rattle.std.proofs.lemmas.Result.{IfOk-weaker}
use Rattle.net_core.specs.Atoms.{Satisfies}
use Rattle.net_core.specs.Least.{IsLeast}
use Rattle.net_core.specs.Ranks.{timeline_of}
use Rattle.net_core.specs.Relations.{Timeline}
use Rattle.order_closure.specs.Tables.{Table, Keeps}
use Rattle.timeline.proofs.Whole.{counter_least}
use Rattle.timeline.proofs.timelines.counter.Goals as goal

pub returns-clause-least : goal.returns-clause-least
returns-clause-least c =
    let new = c.add.new.self in
    let same = c.in_ok-table.ensures in
    let old = c.args.closed.now in
    let points : new.points ≡ old.points = subst (λ (t : Table). new.points ≡ t.points) same c.in-Ok.ensures.points in
    let kept = subst (λ (t : Table). (u : Timeline) → Keeps new u ↔ (Keeps t u × Satisfies u c.opposite.result)) same c.in-Ok.ensures.kept in
    IfOk-weaker c.least.result (λ ranks. IsLeast new.points (Keeps new) (timeline_of ranks)) (λ ranks. IsLeast old.points (λ t. Keeps old t × (Satisfies t c.args.atom → ⊥)) (timeline_of ranks))
    (λ ranks. counter_least old new c.args.atom c.opposite.result (timeline_of ranks) c.opposite.ensures points kept) c.least.ensures.least
