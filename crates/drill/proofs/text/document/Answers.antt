use Rattle.std.proofs.Common.{◌≡◌, ℕ, ◌+◌, ◌*◌, ◌++◌, List, codes, length, sym, ap, ◌∙◌, arith}
use Rattle.std.specs.List.{flat_map, range_with_len}
use Rattle.drill.specs.Numbers.{drawn, links_of}
use Rattle.drill.specs.Texts as texts
use Rattle.drill.proofs.Lines.{made_more, put_after}
use Rattle.drill.proofs.Numbers.{all_hidden, hidden_count}
use Rattle.drill.proofs.text.document.Goals as goal

pub loop-i-preserved : goal.loop-i-preserved
loop-i-preserved c =
    put_after (codes "<TimeML>\n") (flat_map texts.drill_interval_lines (range_with_len 0 c.loop-i.i)) (texts.drill_interval_lines c.loop-i.i) (flat_map texts.drill_interval_lines (range_with_len 0 (c.loop-i.i + 1))) c.loop-i.text.items c.push_interval.new.out.items
    c.loop-i.invariant c.in_ok-push_interval.ensures (made_more texts.drill_interval_lines 0 c.loop-i.i c.loop-i.i (omega arith))

pub push_links-requires-clause-few : goal.push_links-requires-clause-few
push_links-requires-clause-few c =
    let many : length c.as_slice.result.now ≡ c.args.n = ap length (c.as_slice.ensures.value ∙ c.in_ok-hidden.ensures.intervals) ∙ hidden_count c.args.n in
    omega arith

pub push_links-requires-clause-hidden : goal.push_links-requires-clause-hidden
push_links-requires-clause-hidden c = all_hidden c.args.n c.as_slice.result.now (c.as_slice.ensures.value ∙ c.in_ok-hidden.ensures.intervals)

pub push_links-requires-clause-draws : goal.push_links-requires-clause-draws
push_links-requires-clause-draws c =
    let many : length c.as_slice.result.now ≡ c.args.n = ap length (c.as_slice.ensures.value ∙ c.in_ok-hidden.ensures.intervals) ∙ hidden_count c.args.n in
    c.in_ok-hidden.ensures.draws ∙ (λ k. drawn (sym many k) (2 * sym many k))

pub returns : goal.returns
returns c =
    let many : length c.as_slice.result.now ≡ c.args.n = ap length (c.as_slice.ensures.value ∙ c.in_ok-hidden.ensures.intervals) ∙ hidden_count c.args.n in
    let end : c.loop-i.i ≡ c.args.n = omega arith in
    let intervals : c.loop-i.text.items ≡ codes "<TimeML>\n" ++ flat_map texts.drill_interval_lines (range_with_len 0 c.args.n) =
    c.loop-i.invariant ∙ ap (λ m. codes "<TimeML>\n" ++ flat_map texts.drill_interval_lines (range_with_len 0 m)) end in
    c.in_ok-extend_from_slice.ensures.items ∙ ap (λ (text : List ℕ). text ++ codes "</TimeML>\n")
    (c.in_ok-push_links.ensures ∙ (λ k. intervals k ++ flat_map texts.drill_link_line (links_of (many k))))
