use Rattle.std.proofs.Common.{◌≡◌, ◌↔◌, ◌+◌, ◌*◌, ◌<◌, ◌≤◌, length, sym, subst, arith}
use Rattle.std.proofs.lemmas.Bool.{ltb-false}
use Rattle.std.proofs.lemmas.List.Elements.{All-get_or}
use Rattle.std.proofs.lemmas.Result.{on_ok_weaker}
use Rattle.net_core.specs.Atoms.{IsInOrder, Satisfies}
use Rattle.net_core.specs.declared.atom.Atom.{Atom}
use Rattle.walks.specs.declared.dates.Date.{Date}
use Rattle.walks.proofs.DateLaws.{no_date}
use Rattle.net_orders.specs.Milestones.{LeadsToFirst, date_at}
use Rattle.net_orders.proofs.CalendarOrders.{extends_same}
use Rattle.net_orders.proofs.MilestoneLaws.{leads_nowhere, leads_to_place}
use Rattle.net_orders.proofs.milestones.push_place.Goals as goal

pub returns-in_default : goal.returns-in_default
returns-in_default c =
    let lowers = c.args.lowers.now in
    let not = rw c.in_default.is at c.get.ensures.lookup.0 in
    let past : length lowers ≤ c.args.place = omega (arith, ltb-false c.args.place (length lowers) (sym not)) in
    record {
      in_range = c.requires.in_range;
      exact = λ t. (λ all. (all, leads_nowhere c.args.points lowers c.args.strict c.args.upper c.args.place t c.requires.place past), λ both. both.0);
    }

pub returns : goal.returns
returns c =
    let n = c.args.points in
    let lowers = c.args.lowers.now in
    let here = c.in-Some.ensures.lookup.3 in
    let lt : c.args.place < length lowers = here.0 in
    let is : c.in-Some.lower.now ≡ date_at lowers c.args.place = here.1 no_date in
    let below : c.in-Some.lower.now.point < n = subst (λ (d : Date). d.point < n) (sym is) (All-get_or (λ (d : Date). d.point < n) lowers c.args.place no_date lt c.requires.lowers) in
    let order : Atom = record { from = c.args.upper.point; to = n + c.in-Some.lower.now.point; strict = c.args.strict } in
    on_ok_weaker c.push.result (λ pushed. extends_same (2 * n) (λ t. Satisfies t order) (LeadsToFirst n lowers c.args.strict c.args.upper) c.args.orders.now.items c.push.new.orders.items
    (λ t all. subst (λ (d : Date). IsInOrder c.args.strict (t c.args.upper.point) (t (n + d.point)) ↔ LeadsToFirst n lowers c.args.strict c.args.upper t) (sym is)
    (leads_to_place n lowers c.args.strict c.args.upper c.args.place t c.requires.place lt))
    (pushed (2 * n) c.requires.in_range (omega (arith, c.requires.upper), omega arith))) c.push.ensures
