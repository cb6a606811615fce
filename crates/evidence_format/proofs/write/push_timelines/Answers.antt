use Rattle.std.proofs.Common.{◌<◌, length, map, sym, ap, subst, ◌∙◌}
use Rattle.std.proofs.lemmas.List.{length-map}
use Rattle.std.proofs.Math.ListN.{get_or-map}
use Rattle.net_core.specs.Ranks.{pairs_of}
use Rattle.evidence_format.specs.Evidence.{AreRanks}
use Rattle.evidence_format.proofs.write.push_timelines.Goals as goal

pub push_timeline-requires : goal.push_timeline-requires
push_timeline-requires c =
    let place : c.loop-ranks.ranks-index < length (map pairs_of c.args.timelines.now) = rw length-map c.loop-ranks-test.true in
    let fit = c.requires c.loop-ranks.ranks-index (pairs_of c.ranks-item.result) place in
    let same = get_or-map pairs_of c.args.timelines.now c.loop-ranks.ranks-index c.ranks-item.result in
    (subst AreRanks (same ∙ ap pairs_of (sym c.ranks-item.is)) fit).1
