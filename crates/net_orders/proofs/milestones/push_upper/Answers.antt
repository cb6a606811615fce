use Rattle.std.proofs.Common.{◌*◌, ℤ, FitsSigned, false, true, w64, subst, rules}
use Rattle.std.proofs.lemmas.Int.{to_z-of_z}
use Rattle.std.proofs.lemmas.Result.{on_ok_weaker}
use Rattle.net_orders.specs.Milestones.{IsPlaceFrom, LeadsToFirst}
use Rattle.net_orders.proofs.MilestoneLaws.{extends_both}
use Rattle.net_orders.proofs.milestones.push_upper.Goals as goal

pub push_place-requires-clause-place : goal.push_place-requires-clause-place
push_place-requires-clause-place c =
    let fits : FitsSigned w64 c.args.upper.number = search rules in
    subst (λ (x : ℤ). IsPlaceFrom c.args.lowers.now false x c.first_from-from.result) (to_z-of_z w64 c.args.upper.number fits) c.first_from-from.ensures

pub push_place-requires-2-clause-place : goal.push_place-requires-2-clause-place
push_place-requires-2-clause-place c =
    let fits : FitsSigned w64 c.args.upper.number = search rules in
    subst (λ (x : ℤ). IsPlaceFrom c.args.lowers.now true x c.first_past-past.result) (to_z-of_z w64 c.args.upper.number fits) c.first_past-past.ensures

pub returns : goal.returns
returns c =
    let n = c.args.points in
    let lowers = c.args.lowers.now in
    on_ok_weaker c.push_place-2.result (λ second. extends_both (2 * n) (LeadsToFirst n lowers false c.args.upper) (LeadsToFirst n lowers true c.args.upper)
    c.args.orders.now.items c.push_place.new.orders.items c.push_place-2.new.orders.items c.in_ok-push_place.ensures second) c.push_place-2.ensures
