use Rattle.std.proofs.Common.{arith}
use Rattle.seconds_search.proofs.EdgeLaws.{covers_interval, grows_on}
use Rattle.seconds_search.proofs.edges.push_interval.Goals as goal

pub returns-clause-grows : goal.returns-clause-grows
returns-clause-grows c =
    let one = c.in_ok-push_line.ensures.grows in
    let two = c.in_ok-push_line-2.ensures.grows in
    let three = c.in_ok-push_line-3.ensures.grows in
    grows_on _ _ _ _ 2 1 3 (omega arith) (grows_on _ _ _ _ 1 1 2 (omega arith) one two) three

pub returns-clause-covers : goal.returns-clause-covers
returns-clause-covers c =
    covers_interval _ _ _ _ c.args.interval c.in_ok-push_line.ensures.covers c.in_ok-push_line-2.ensures.grows c.in_ok-push_line-2.ensures.covers c.in_ok-push_line-3.ensures.grows c.in_ok-push_line-3.ensures.covers
