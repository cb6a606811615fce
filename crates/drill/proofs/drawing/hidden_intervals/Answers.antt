use Rattle.std.proofs.Common.{◌≡◌, ◌*◌, ap, ◌∙◌, arith}
use Rattle.drill.specs.Numbers.{drawn, next}
use Rattle.drill.proofs.Numbers.{hidden_more, next_two}
use Rattle.drill.proofs.drawing.hidden_intervals.Goals as goal

pub loop-preserved : goal.loop-preserved
loop-preserved c =
    let first : c.draw-start.result ≡ next (drawn c.args.n (2 * c.loop.counter)) = c.draw-start.ensures.drawn ∙ ap next c.loop.invariant.last in
    let second : c.draw.result ≡ next c.draw-start.result = c.draw.ensures.drawn ∙ ap next c.draw-start.ensures.last in
    let two = next_two c.args.n c.loop.counter c.draw-start.result c.draw.result first second in
    record {
      intervals = hidden_more c.args.n c.loop.counter c.draw-start.result c.draw.result c.loop.hidden.items c.push.new.self.items first second c.loop.invariant.intervals c.in_ok-push.ensures.items;
      last = c.draw.ensures.last ∙ two.1 ∙ ap (drawn c.args.n) (omega arith);
      within = omega arith;
    }
