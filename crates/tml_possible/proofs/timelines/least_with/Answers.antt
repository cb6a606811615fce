use Rattle.std.proofs.Common.{◌≡◌, ◌↔◌, subst}
use Rattle.net_core.specs.Relations.{Relates, Timeline}
use Rattle.order_closure.specs.Tables.{Keeps, Table}
use Rattle.tml_possible.proofs.Least.{least_by}
use Rattle.tml_possible.proofs.timelines.least_with.Goals as goal

pub returns : goal.returns
returns c =
    let old = c.args.closed.now in
    let new = c.raise.new.table in
    let same = c.in_ok-table.ensures in
    let points : new.points ≡ old.points = subst (λ (t : Table). new.points ≡ t.points) same c.raise.ensures.points in
    let kept = subst (λ (t : Table). (u : Timeline) → Keeps new u ↔ (Keeps t u × Relates u c.args.a c.args.rel c.args.b)) same c.raise.ensures.kept in
    least_by new.points old.points (Keeps new) (λ t. Keeps old t × Relates t c.args.a c.args.rel c.args.b) points kept c.least.result c.least.ensures.size c.least.ensures.least c.least.ensures.small
