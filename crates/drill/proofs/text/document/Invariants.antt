use Rattle.std.proofs.Common.{codes, ◌++◌, ◌≡◌}
use Rattle.drill.specs.Texts as texts
use Rattle.std.specs.List.{flat_map, range_with_len}
use Rattle.drill.proofs.text.document.Given as goal

-- the first intervals are put last
abbrev pub invariant-loop-i : goal.invariant-loop-i
invariant-loop-i l = l.text.items ≡ codes "<TimeML>\n" ++ flat_map texts.drill_interval_lines (range_with_len 0 l.i)
