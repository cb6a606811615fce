-- The document of a drill is short.
use Rattle.std.proofs.Common.{ℕ, ◌<◌, ◌≤◌, ◌++◌, codes, length, arith, length-append}
use Rattle.std.specs.Prelude.{decimal}
use Rattle.std.specs.List.{flat_map, range_with_len}
use Rattle.std.proofs.lemmas.Fmt.{length-decimal-le}
use Rattle.std.proofs.lemmas.List.FromFn.{length-range_with_len}
use Rattle.named.proofs.Lists.{each_weaker}
use Rattle.net_core.specs.Limits.{max_intervals}
use Rattle.net_core.proofs.RelLaws.{text_short}
use Rattle.tml_refs.specs.declared.document.DocLink.{DocLink}
use Rattle.drill.specs.Laws.{DrillIsShort}
use Rattle.drill.specs.Numbers.{links_of}
use Rattle.drill.specs.Texts.{drill_interval_lines, drill_link_line}
use Rattle.drill.proofs.Links.{IsTrueLink, few_links, true_links}
use Rattle.drill.proofs.Lists.{all_range, flat_map_length}

-- the number of an interval has at most nine digits, whatever the limit
pub number_short : (i : ℕ) → i < max_intervals → length (decimal i) ≤ 9
number_short i lt = length-decimal-le 9 i (omega arith) (omega arith) (omega arith)

-- the lines of an interval have at most 150 bytes
interval_short : (i : ℕ) → i < max_intervals → length (drill_interval_lines i) ≤ 150
interval_short i lt = let number = number_short i lt in simp length-append (omega arith)

-- and so has the line of a link
link_short : (link : DocLink) → link.a < max_intervals → link.b < max_intervals → length (drill_link_line link) ≤ 150
link_short link a b = let left = number_short link.a a in let right = number_short link.b b in let relation = text_short link.rel in simp length-append (omega arith)

-- so the document of a drill has at most 150 bytes for each interval and each link, and its first and last line
pub drill_is_short : DrillIsShort
drill_is_short n is =
    let intervals = flat_map_length drill_interval_lines 150 (range_with_len 0 n) (all_range (λ i. length (drill_interval_lines i) ≤ 150) 0 n (λ i from below. interval_short i (omega arith))) in
    let links = flat_map_length drill_link_line 150 (links_of n) (each_weaker (IsTrueLink n) (λ link. length (drill_link_line link) ≤ 150) (λ link true. link_short link (omega (arith, true.a)) (omega (arith, true.b))) (links_of n) (true_links n)) in
    let lines = flat_map drill_interval_lines (range_with_len 0 n) in
    let others = flat_map drill_link_line (links_of n) in
    omega (arith, intervals, links, few_links n, length-range_with_len 0 n, length-append (codes "<TimeML>\n") lines, length-append (codes "<TimeML>\n" ++ lines) others, length-append (codes "<TimeML>\n" ++ lines ++ others) (codes "</TimeML>\n"))
