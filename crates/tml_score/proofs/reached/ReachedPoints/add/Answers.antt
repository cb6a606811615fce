use Rattle.std.proofs.Common.{◌≡◌, ◌<◌, ◌++◌, ◌∷◌, [], List, length, ap, subst, arith, rules}
use Rattle.std.specs.List.{Contains}
use Rattle.tml_score.proofs.ReachedLaws.{few_placed, placed_push}
use Rattle.tml_score.proofs.reached.ReachedPoints.add.Goals as goal

pub overflow_cast-place : goal.overflow_cast-place
overflow_cast-place c = omega (arith, few_placed c.self.inside.points.items c.self.inside.places.items c.self.invariant, c.self.invariant.few, c.len-place.ensures)

pub invariant_of-self-2 : goal.invariant_of-self-2
invariant_of-self-2 c =
    let points = c.self.inside.points.items in
    let places = c.self.inside.places.items in
    let pushed : c.push.new.self.items ≡ points ++ c.args.point ∷ [] = search rules in
    let count : c.len-place.result ≡ length points = search rules in
    let room : c.args.point < length places = omega (arith, c.requires.room, ap (λ v. v.room) c.self.view_is) in
    let new = λ (among : Contains points c.args.point). c.requires.new (subst (λ (xs : List _). Contains xs c.args.point) (ap (λ v. v.points) c.self.view_is) among) in
    rw (pushed, count) (placed_push points places c.args.point c.self.invariant room new)
