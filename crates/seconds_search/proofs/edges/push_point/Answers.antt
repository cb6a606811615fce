use Rattle.std.proofs.Common.{arith}
use Rattle.seconds_search.proofs.EdgeLaws.{covers_point, grows_on}
use Rattle.seconds_search.proofs.edges.push_point.Goals as goal

pub returns-clause-grows : goal.returns-clause-grows
returns-clause-grows c = grows_on _ _ _ _ 1 1 2 (omega arith) c.in_ok-push_line.ensures.grows c.in_ok-push_line-2.ensures.grows

pub returns-clause-covers : goal.returns-clause-covers
returns-clause-covers c = covers_point _ _ _ c.args.point c.in_ok-push_line.ensures.covers c.in_ok-push_line-2.ensures.grows c.in_ok-push_line-2.ensures.covers
