-- Serves the code: what is added to a table, step by step.
use Rattle.std.specs.Prelude.{◌≡◌, ℕ, ◌<◌, ◌↔◌, Result, Ok, Err, length}
use Rattle.net_core.specs.Fits.{KeepsCalendar, KeepsLink, StartsFirst}
use Rattle.net_core.specs.Nets.{PlainNet, intervals, points}
use Rattle.net_core.specs.Relations.{Timeline}
use Rattle.order_closure.specs.Tables.{Keeps, Table}
use Rattle.order_closure.specs.declared.table.WouldClash.{WouldClash}

-- each interval starts before it ends
abbrev pub KeepsSpans : PlainNet → Timeline → Type 0
KeepsSpans net t = (i : ℕ) → i < intervals net → StartsFirst t i

-- each link holds
abbrev pub KeepsLinks : PlainNet → Timeline → Type 0
KeepsLinks net t = (k : ℕ) → k < length net.links → KeepsLink net t k

-- all points are in the order of the calendar
abbrev pub KeepsDates : PlainNet → Timeline → Type 0
KeepsDates net t = (p q : ℕ) → p < points net → q < points net → KeepsCalendar net t p q

-- the table has as many points as before, and its timelines are those that kept it and of which something is true
abbrev pub AddsToTable : (Timeline → Type 0) → Table → Table → Type 0
AddsToTable IsTrue old new = (new.points ≡ old.points) × ((t : Timeline) → Keeps new t ↔ (Keeps old t × IsTrue t))

-- something is true of no timeline that keeps the table
abbrev pub Excludes : (Timeline → Type 0) → Table → Type 0
Excludes IsTrue old = (t : Timeline) → Keeps old t → IsTrue t → ⊥

-- it was added, or it would clash
abbrev pub AddsOrClashes : (Timeline → Type 0) → Table → Table → Result Unit WouldClash → Type 0
AddsOrClashes IsTrue old new (Ok done) = AddsToTable IsTrue old new
AddsOrClashes IsTrue old new (Err fault) = Excludes IsTrue old

-- the table has as many points as before; its timelines kept it before, and those of which something is true still do
abbrev pub AddsPart : (Timeline → Type 0) → Table → Table → Type 0
AddsPart IsTrue old new = (new.points ≡ old.points) × ((t : Timeline) → (Keeps new t → Keeps old t) × (Keeps old t → IsTrue t → Keeps new t))

-- each link before link k holds
abbrev pub KeepsLinksBefore : PlainNet → ℕ → Timeline → Type 0
KeepsLinksBefore net k t = (j : ℕ) → j < k → KeepsLink net t j

-- Some timelines keep the table and the links before link k, and that link holds in none of them.
pub record IsFirstExcluded (net : PlainNet) (table : Table) (k : ℕ) : Type 0 where
  pub link : k < length net.links
  pub before : (t : Timeline) × Keeps table t × KeepsLinksBefore net k t
  pub excluded : (t : Timeline) → Keeps table t → KeepsLinksBefore net k t → KeepsLink net t k → ⊥
