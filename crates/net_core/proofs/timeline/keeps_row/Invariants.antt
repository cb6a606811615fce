use Rattle.std.proofs.Common.{◌≡◌, ◌*◌, ◌↔◌, IsTrue, Some}
use Rattle.net_core.specs.Rows.{KeepsRow}
use Rattle.net_core.specs.Nets.{intervals}
use Rattle.net_core.specs.Ranks.{timeline_of}
use Rattle.net_core.proofs.timeline.keeps_row.Given as goal

-- whether those before it are in order
abbrev pub invariant-loop-i : goal.invariant-loop-i
invariant-loop-i l =
    (l.i-end ≡ intervals l.net)
    × (IsTrue l.keeps ↔ KeepsRow l.net (timeline_of l.ranks) (Some l.upper) l.rank (2 * l.i))
