use Rattle.std.proofs.Common.{arith}
use Rattle.seconds_search.proofs.EdgeLaws.{covers_link, grows_on}
use Rattle.seconds_search.proofs.edges.push_link.Goals as goal

pub returns-clause-grows : goal.returns-clause-grows
returns-clause-grows c =
    let one = c.in_ok-push_line.ensures.grows in
    let two = c.in_ok-push_line-2.ensures.grows in
    let three = c.in_ok-push_line-3.ensures.grows in
    let four = c.in_ok-push_line-4.ensures.grows in
    grows_on _ _ _ _ 2 2 4 (omega arith) (grows_on _ _ _ _ 1 1 2 (omega arith) one two) (grows_on _ _ _ _ 1 1 2 (omega arith) three four)

pub returns-clause-covers : goal.returns-clause-covers
returns-clause-covers c =
    covers_link _ _ _ _ _ c.args.link c.in_ok-push_line.ensures.covers c.in_ok-push_line-2.ensures.grows c.in_ok-push_line-2.ensures.covers c.in_ok-push_line-3.ensures.grows c.in_ok-push_line-3.ensures.covers c.in_ok-push_line-4.ensures.grows c.in_ok-push_line-4.ensures.covers
