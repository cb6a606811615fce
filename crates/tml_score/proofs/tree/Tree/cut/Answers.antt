use Rattle.std.proofs.Common.{refl, arith}
use Rattle.tml_score.proofs.TreeLaws.{cut_tree}
use Rattle.tml_score.proofs.tree.Tree.cut.Goals as goal

pub returns : goal.returns
returns c = λ basis roots near is.
    let old = c.args.self.now in
    let turn = c.before-turn.result in
    let size = c.truncate.ensures.len in
    cut_tree basis roots near old (record { near = old.near; orders = c.truncate.new.self; turns = old.turns; in_use = old.in_use; whole = c.if-self.self }) c.args.link is turn refl refl refl c.truncate.ensures.items
    (omega (arith, size, c.before-turn.ensures.within)) (omega (arith, size)) c.before-turn.ensures.before
