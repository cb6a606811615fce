use Rattle.std.proofs.Common.{◌+◌, ◌-◌, ◌≤◌, length, ap, ◌∙◌, arith}
use Rattle.std.specs.List.{flat_map, range_with_len}
use Rattle.drill.specs.Numbers.{drawn, links_from}
use Rattle.drill.specs.Texts as texts
use Rattle.drill.proofs.Lines.{links_from_more, put_after}
use Rattle.drill.proofs.text.push_links.Goals as goal

pub loop-i-preserved : goal.loop-i-preserved
loop-i-preserved c =
    let n = length c.args.hidden.now in
    let some : 1 ≤ c.loop-i.i = omega arith in
    let before = flat_map texts.drill_link_line (flat_map (links_from n) (range_with_len 1 (c.loop-i.i - 1))) in
    let after = flat_map texts.drill_link_line (flat_map (links_from n) (range_with_len 1 (c.loop-i.i + 1 - 1))) in
    record {
      text = put_after c.args.out.now.items before (flat_map texts.drill_link_line (links_from n c.loop-i.i)) after c.loop-i.out.items c.push_links_from.new.out.items
          c.loop-i.invariant.text c.in_ok-push_links_from.ensures.text (links_from_more n c.loop-i.i some);
      last = c.in_ok-push_links_from.ensures.draws ∙ ap (drawn n) (omega arith);
      within = omega arith;
    }
