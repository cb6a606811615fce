use Rattle.std.proofs.Common.{◌↔◌, ◌*◌, ◌≡◌, ℕ, List, Option, ap, sym, subst}
use Rattle.std.specs.Option.{IfSome}
use Rattle.std.proofs.lemmas.Option.{IfSome_then}
use Rattle.net_core.specs.Fits.{Fits}
use Rattle.net_core.specs.Nets.{points}
use Rattle.net_core.specs.Relations.{Timeline}
use Rattle.net_core.specs.declared.atom.Atom.{Atom}
use Rattle.order_closure.specs.Tables.{SatisfiesAll, Table}
use Rattle.clash.specs.Closures.{IsTableOf}
use Rattle.clash.specs.Minimal.{IsProvedClash}
use Rattle.clash.specs.declared.minimal.Clash.{Clash}
use Rattle.clash.proofs.Exact.{proved_excludes, table_of_fitting}
use Rattle.clash.proofs.closure.in_sequence.Goals as goal

pub returns-in-Some-clause-err : goal.returns-in-Some-clause-err
returns-in-Some-clause-err c =
    let net = c.args.net.now in
    let proved = subst (λ (o : Option Clash). IfSome o (IsProvedClash net)) c.in-Some.is c.in_ok-found.ensures in
    (proved_excludes net c.in-Some.clash proved, proved)

pub returns-then-is_empty-clause-ok : goal.returns-then-is_empty-clause-ok
returns-then-is_empty-clause-ok c =
    let net = c.args.net.now in
    let orders = c.deref-then-is_empty.result.now in
    let size : 2 * c.intervals-points.result ≡ points net = ap (λ (n : ℕ). 2 * n) c.intervals-points.ensures.count in
    let said : (t : Timeline) → SatisfiesAll orders t ↔ Fits net t =
    subst (λ (os : List Atom). (t : Timeline) → SatisfiesAll os t ↔ Fits net t) (sym c.deref-then-is_empty.ensures.value) c.in_ok-orders.ensures.exact in
    IfSome_then c.in_ok-table.table c.in_ok-table.ensures.some (λ (table : Table) (is : IsTableOf (2 * c.intervals-points.result) (SatisfiesAll orders) table).
    table_of_fitting net orders (2 * c.intervals-points.result) table size said is)
