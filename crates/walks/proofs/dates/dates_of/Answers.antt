use Rattle.std.proofs.Common.{◌≡◌, ◌+◌, ◌*◌, ℕ, ap, [], ◌∷◌, ◌++◌, sym, subst, ◌∙◌, rules}
use Rattle.walks.specs.Dates.{AreDates, number_at}
use Rattle.walks.specs.declared.dates.Date.{Date}
use Rattle.walks.proofs.DateLaws.{dates_none, dates_with, dates_without}
use Rattle.walks.proofs.dates.dates_of.Goals as goal
use Rattle.walks.proofs.dates.dates_of.Goals.{in-Some+in_ok-push, in_default}

pub loop-point-init : goal.loop-point-init
loop-point-init c = record {
  end = ap (λ (n : ℕ). 2 * n) c.intervals-point-end.ensures.count;
  so_far = subst (AreDates (number_at c.args.side c.args.net.now) 0) (sym c.new-dates.ensures.items) (dates_none (number_at c.args.side c.args.net.now));
}

pub loop-point-preserved : goal.loop-point-preserved
loop-point-preserved c =
    let number = number_at c.args.side c.args.net.now in
    let point = c.loop-point.point in
    let dates = c.loop-point.dates.items in
    let so_far = c.loop-point.invariant.so_far in
    record {
      end = c.loop-point.invariant.end;
      so_far = elim c.match-number.branch [
        | in-Some+in_ok-push w ↦
            let one : Date = record { number = w.in-Some.number; point = point } in
            let items : c.match-number.dates.items ≡ dates ++ one ∷ [] = search rules in
            subst (AreDates number (point + 1)) (sym items) (dates_with number point dates w.in-Some.number (sym c.number.ensures ∙ w.in-Some.is) so_far)
        | in_default w ↦
            let items : c.match-number.dates.items ≡ dates = search rules in
            subst (AreDates number (point + 1)) (sym items) (dates_without number point dates (sym c.number.ensures ∙ w.in_default.is) so_far)
      ];
    }
