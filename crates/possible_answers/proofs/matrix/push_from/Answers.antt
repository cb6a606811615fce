use Rattle.std.proofs.Common.{◌+◌, ◌*◌, ◌<◌, ℕ, Bor, List, [], length, map, sym, arith}
use Rattle.std.proofs.lemmas.List.{get_or-map, length-map}
use Rattle.possible_answers.proofs.Lines.{line_more}
use Rattle.possible_answers.proofs.matrix.push_from.Goals as goal

pub loop-b-preserved : goal.loop-b-preserved
loop-b-preserved c =
    let table = c.args.table.now in
    let text_of = λ (name : Bor (List ℕ)). name.now in
    let names = map text_of c.args.names.now in
    let a = c.args.a in
    let b = c.loop-b.b in
    let many = length-map c.args.names.now text_of in
    let n = length c.args.names.now in
    let lb : b < n = omega (arith, c.loop-b-test.true, c.loop-b.invariant.end) in
    let la : a < n = omega (arith, lb, c.loop-b.invariant.past) in
    let fb : 2 * b + 1 < table.points = omega (arith, lb, c.requires.points) in
    let fa : 2 * a + 1 < table.points = omega (arith, la, c.requires.points) in record {
      end = c.loop-b.invariant.end;
      past = omega (arith, c.loop-b.invariant.past);
      texts = c.in_ok-push_line.ensures.texts;
      lines = λ intervals can are tells.
          line_more intervals can names n table a b c.loop-b.out.items _ _ c.push_line.new.out.items _ c.possible_set-set.result (sym many) are tells la lb fa fb c.possible_set-set.ensures (get_or-map text_of c.args.names.now a _ [] la) (get_or-map text_of c.args.names.now b _ [] lb) c.in_ok-push_line.ensures.line (c.loop-b.invariant.lines intervals can are tells);
    }
