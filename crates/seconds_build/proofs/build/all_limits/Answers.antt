use Rattle.std.proofs.Common.{sym, ◌∙◌, ap, ◌++◌, ◌∷◌, [], subst}
use Rattle.std.specs.List.{All}
use Rattle.std.proofs.lemmas.List.Elements.{All-push}
use Rattle.net_build.proofs.Pairing.{map_next}
use Rattle.seconds_core.specs.Timed.{AreLengths}
use Rattle.tml_refs.specs.View.{plain_interval}
use Rattle.seconds_build.specs.Built.{interval_limits}
use Rattle.seconds_build.proofs.build.all_limits.Goals as goal

pub loop-i-preserved : goal.loop-i-preserved
loop-i-preserved c =
    let so_far = c.loop-i.invariant in
    let its = c.interval_limits.ensures in
    let more = c.in_ok-push.ensures.ok in
    let same = more ∙ ap (λ x. c.loop-i.limits ++ x ∷ []) its.limits in
    record {
      limits = map_next interval_limits c.args.document.now.intervals c.loop-i.i (plain_interval c.interval.result) c.loop-i.limits c.push.new.self c.interval.ensures so_far.limits same;
      lengths = subst (All AreLengths) (sym more) (All-push AreLengths c.loop-i.limits c.interval_limits.result so_far.lengths its.lengths);
    }
