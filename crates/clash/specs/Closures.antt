-- The closure of a net.
use Rattle.std.specs.Prelude.{◌≡◌, ℕ, ◌<◌, ◌↔◌, ⊤, true, false}
use Rattle.net_core.specs.Entailment.{Always, HasNoTimeline, HasTimeline}
use Rattle.net_core.specs.Fits.{Fits, FitsWith}
use Rattle.net_core.specs.Nets.{PlainNet, points}
use Rattle.net_core.specs.Relations.{Timeline}
use Rattle.order_closure.specs.Tables.{IsClosed, Keeps, Table, cell_at}
use Rattle.order_closure.specs.declared.cell.Cell.TheVariants.{Strict, Weak}
use Rattle.clash.specs.Minimal.{IsProvedClash}
use Rattle.clash.specs.declared.closure.CloseFault.{CloseFault}
use Rattle.clash.specs.declared.closure.CloseFault.TheVariants as faults

-- none of the links
abbrev pub NoLink : ℕ → Type 0
NoLink k = ⊥

-- The timelines that keep the table are those that fit the net, and its cells say exactly what they all have.
pub record IsClosureOf (net : PlainNet) (table : Table) : Type 0 where
  pub size : table.points ≡ points net
  pub keeps : (t : Timeline) → Keeps table t ↔ Fits net t
  pub strict : (p q : ℕ) → p < points net → q < points net → (cell_at table p q ≡ Strict) ↔ Always net true p q
  pub weak : (p q : ℕ) → p < points net → q < points net
      → (cell_at table p q ≡ Weak) ↔ (Always net false p q × ¬ Always net true p q)

-- There is a closed table that is the closure of a net exactly where some timeline fits, and all closures of a net have the same cells.
pub record HasOneClosure (net : PlainNet) : Type 0 where
  pub some : HasTimeline net → (table : Table) × IsClosed table × IsClosureOf net table
  pub fits : (table : Table) → IsClosed table → IsClosureOf net table → HasTimeline net
  pub one : (table other : Table) → IsClosureOf net table → IsClosureOf net other → (p q : ℕ) → p < points net → q < points net → cell_at table p q ≡ cell_at other p q

-- The table has n points, and the timelines that keep it are those of which something is true.
pub record IsTableOf (n : ℕ) (IsTrue : Timeline → Type 0) (table : Table) : Type 0 where
  pub size : table.points ≡ n
  pub keeps : (t : Timeline) → Keeps table t ↔ IsTrue t

-- The timelines that keep the table are those that fit with no links.
pub record IsUnlinked (net : PlainNet) (table : Table) : Type 0 where
  pub size : table.points ≡ points net
  pub keeps : (t : Timeline) → Keeps table t ↔ FitsWith net NoLink t

-- a clash is reported only where no timeline fits, and it is a minimal one that proves itself
abbrev pub ReportsClash : PlainNet → CloseFault → Type 0
ReportsClash net (faults.Clash clash) = HasNoTimeline net × IsProvedClash net clash
ReportsClash net faults.Memory = ⊤
