use Rattle.std.proofs.Common.{length, ◌*◌, ◌++◌, ◌+◌, ◌-◌, ◌<◌, ◌≡◌}
use Rattle.drill.specs.Numbers.{drawn, links_from}
use Rattle.drill.specs.Texts as texts
use Rattle.std.specs.List.{flat_map, range_with_len}
use Rattle.drill.proofs.text.push_links.Given as goal

-- the links from the first intervals are put last
abbrev pub invariant-loop-i : goal.invariant-loop-i
invariant-loop-i l = let n = length l.hidden in record {
  text : l.out.items ≡ l.fn.out.items ++ flat_map texts.drill_link_line (flat_map (links_from n) (range_with_len 1 (l.i - 1)));
  last : l.draws.last ≡ drawn n (2 * n + 3 * (l.i - 1));
  within : l.draws.last < 65537;
}
