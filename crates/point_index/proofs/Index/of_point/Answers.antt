use Rattle.std.proofs.Common.{◌≡◌, rules}
use Rattle.point_index.specs.Index.{AreNumbersOf}
use Rattle.point_index.proofs.Starts.{stretch_is}
use Rattle.point_index.proofs.Index.of_point.Goals as goal

pub returns : goal.returns
returns g c =
    let point_of = g.P.PointOf.point_of c.self.inside.by in
    let items = c.self.inside.items.items in
    let all : c.deref.result.now ≡ items = search rules in
    let numbers : AreNumbersOf point_of items c.args.point c.numbers_of-start.result.start c.numbers_of-start.result.end = search rules in
    rw (all, ← c.self.view_is) (stretch_is point_of items c.args.point c.numbers_of-start.result.start c.numbers_of-start.result.end numbers)
