use Rattle.std.proofs.Common.{length, ◌*◌, ◌++◌, ◌+◌, ◌-◌, ◌<◌, ◌≡◌, ℕ}
use Rattle.drill.specs.Numbers as spec
use Rattle.drill.specs.Texts as texts
use Rattle.std.specs.List.{filter_map, flat_map, range_with_len}
use Rattle.drill.proofs.text.push_links_from.Given as goal

-- the first links are put last
abbrev pub invariant-loop : goal.invariant-loop
invariant-loop l = let n = length l.hidden in record {
  text : l.out.items ≡ l.fn.out.items ++ flat_map texts.drill_link_line (filter_map (λ (time : ℕ). spec.link_between n l.i (spec.partner n l.i time)) (range_with_len 1 l.counter));
  last : l.draws.last ≡ spec.drawn n (2 * n + 3 * (l.i - 1) + l.counter);
  within : l.draws.last < 65537;
}
