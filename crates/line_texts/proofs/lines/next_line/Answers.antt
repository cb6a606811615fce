use Rattle.std.proofs.Common.{◌<◌, ◌+◌, min, length, sym, ◌∙◌, ap, arith}
use Rattle.std.proofs.lemmas.Bool.{eqb-true}
use Rattle.line_texts.proofs.Cutting.{first_cut, no_lines}
use Rattle.line_texts.proofs.lines.next_line.Goals as goal

pub returns-then-is_empty : goal.returns-then-is_empty
returns-then-is_empty c = no_lines c.args.text.now (eqb-true _ 0 (sym c.if-is_empty.ensures))

pub returns : goal.returns
returns c =
    let some : 0 < length c.args.text.now = grind (arith, c.if-is_empty.ensures) in
    rw (c.split_at.ensures.front, c.split_at.ensures.back) (first_cut c.args.text.now c.min.result some (c.min.ensures ∙ ap (λ n. min (length c.args.text.now) (n + 1)) c.len_to-len.ensures.len))
