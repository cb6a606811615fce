use Rattle.std.proofs.Common.{◌+◌, ◌*◌, ◌-◌, arith}
use Rattle.order_closure.proofs.Joined.{row_joined}
use Rattle.order_closure.proofs.rows.join_row.Goals as goal

pub returns : goal.returns
returns c =
    let w = c.args.width in
    let i = c.args.i in
    let s = c.args.over.now.start in
    let e = c.args.over.now.end in
    row_joined w i s e c.args.over.now.words c.args.plane.now c.join.new.row ((i * w + e) - (i * w + s)) (omega arith) c.requires.within c.requires.over (omega arith) c.join.auto.row c.join.ensures
