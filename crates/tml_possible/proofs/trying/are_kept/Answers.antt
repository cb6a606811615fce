use Rattle.tml_possible.proofs.Growing.{intervals_kept}
use Rattle.tml_possible.proofs.trying.are_kept.Goals as goal

pub returns : goal.returns
returns c = intervals_kept c.args.closed.now c.args.a c.args.b c.args.of_a c.args.of_b c.are_kept_from-first.result c.are_kept_from-forth.result c.are_kept_from-back.result c.are_kept_from-second.result
    c.are_kept_from-first.ensures c.are_kept_from-forth.ensures c.are_kept_from-back.ensures c.are_kept_from-second.ensures
