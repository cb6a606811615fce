use Rattle.std.proofs.Common.{None, Some, length, sym, ◌∙◌}
use Rattle.drill.proofs.Numbers.{link_made}
use Rattle.drill.proofs.drawing.link_between.Goals as goal

pub returns-in_err-rel : goal.returns-in_err-rel
returns-in_err-rel c =
    c.from_residual.ensures ∙ link_made (length c.args.hidden.now) c.args.i c.args.j c.args.hidden.now (record { start = 0; finish = 0 }) None
    c.requires.hidden c.requires.i c.requires.j (sym c.in_err-rel.was ∙ c.first_relation.ensures)

pub returns : goal.returns
returns c =
    link_made (length c.args.hidden.now) c.args.i c.args.j c.args.hidden.now (record { start = 0; finish = 0 }) (Some c.in_ok-rel.rel)
    c.requires.hidden c.requires.i c.requires.j (sym c.in_ok-rel.was ∙ c.first_relation.ensures)
