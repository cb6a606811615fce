use Rattle.std.proofs.Common.{◌≡◌, ℕ, ◌+◌, ◌-◌, ◌*◌, ◌++◌, length, sym, ap, subst, ◌∙◌, arith}
use Rattle.std.specs.List.{filter_map, flat_map, range_with_len}
use Rattle.drill.specs.Numbers as spec
use Rattle.drill.specs.Texts as texts
use Rattle.drill.proofs.Lines.{link_put_last}
use Rattle.drill.proofs.Numbers.{drawn_next}
use Rattle.drill.proofs.text.push_links_from.Goals as goal

pub loop-preserved : goal.loop-preserved
loop-preserved c =
    let n = length c.args.hidden.now in
    let before = 2 * n + 3 * (c.args.i - 1) + c.loop.counter in
    let number : c.draw.result ≡ spec.drawn n (2 * n + 3 * (c.args.i - 1) + (c.loop.counter + 1)) =
    c.draw.ensures.drawn ∙ ap spec.next c.loop.invariant.last ∙ sym (drawn_next n before (2 * n + 3 * (c.args.i - 1) + (c.loop.counter + 1)) (omega arith)) in
    record {
      text = link_put_last n c.args.i c.loop.counter c.draw.result c.args.out.now.items c.loop.out.items c.push_link_between.new.out.items number c.loop.invariant.text c.in_ok-push_link_between.ensures;
      last = c.draw.ensures.last ∙ number ∙ ap (spec.drawn n) (omega arith);
      within = omega arith;
    }

pub returns-clause-text : goal.returns-clause-text
returns-clause-text c =
    let n = length c.args.hidden.now in
    let end : c.loop.counter ≡ 3 = omega arith in
    subst (λ (k : ℕ). c.loop.out.items ≡ c.args.out.now.items ++ flat_map texts.drill_link_line (filter_map (λ (time : ℕ). spec.link_between n c.args.i (spec.partner n c.args.i time)) (range_with_len 1 k))) end c.loop.invariant.text
