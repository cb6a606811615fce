use Rattle.std.proofs.Common.{◌*◌, ◌↔◌, ◌≡◌, ℕ, List, Option, ap, sym, subst}
use Rattle.std.specs.Option.{IfSome}
use Rattle.net_core.specs.Fits.{Fits}
use Rattle.net_core.specs.Nets.{points}
use Rattle.net_core.specs.Relations.{Timeline}
use Rattle.net_core.specs.declared.atom.Atom.{Atom}
use Rattle.order_closure.specs.Tables.{SatisfiesAll, Table}
use Rattle.clash.specs.Closures.{IsTableOf}
use Rattle.clash.proofs.Exact.{closure_from, table_of_fitting}
use Rattle.clash.proofs.closure.close_if_fits.Goals as goal

pub returns-clause-some : goal.returns-clause-some
returns-clause-some c =
    let net = c.args.net.now in
    let orders = c.deref-4.result.now in
    let size : 2 * c.intervals-points.result ≡ points net = ap (λ (n : ℕ). 2 * n) c.intervals-points.ensures.count in
    let said : (t : Timeline) → SatisfiesAll orders t ↔ Fits net t =
    subst (λ (os : List Atom). (t : Timeline) → SatisfiesAll os t ↔ Fits net t) (sym c.deref-4.ensures.value) c.in_ok-orders.ensures.exact in
    let table = subst (λ (o : Option Table). IfSome o (IsTableOf (2 * c.intervals-points.result) (SatisfiesAll orders))) c.in-Some.is c.in_ok-table.ensures.some in
    let is = table_of_fitting net orders (2 * c.intervals-points.result) c.in-Some.table size said table in
    closure_from net c.in-Some.table c.points.ensures.closed is.size is.keeps
