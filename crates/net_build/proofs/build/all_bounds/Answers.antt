use Rattle.std.proofs.Common.{sym, subst}
use Rattle.std.specs.List.{All}
use Rattle.std.proofs.lemmas.List.Elements.{All-push}
use Rattle.net_core.specs.Bounds.{AreOrdered}
use Rattle.timex_dates.specs.Answers.{IsCivil}
use Rattle.tml_refs.specs.View.{plain_interval}
use Rattle.net_build.specs.Built.{IntervalBounds}
use Rattle.net_build.proofs.Pairing.{zip_next}
use Rattle.net_build.proofs.build.all_bounds.Goals as goal

pub loop-i-preserved : goal.loop-i-preserved
loop-i-preserved c =
    let so_far = c.loop-i.invariant in
    let its = c.interval_bounds.ensures in
    let more = c.in_ok-push.ensures.ok in
    record {
      bounds = zip_next IntervalBounds c.args.document.now.intervals c.loop-i.i (plain_interval c.interval.result) c.loop-i.bounds c.interval_bounds.result c.push.new.self c.interval.ensures so_far.bounds its.bounds more;
      ordered = subst (All AreOrdered) (sym more) (All-push AreOrdered c.loop-i.bounds c.interval_bounds.result so_far.ordered its.ordered);
      civil = subst (All IsCivil) (sym more) (All-push IsCivil c.loop-i.bounds c.interval_bounds.result so_far.civil its.civil);
    }
