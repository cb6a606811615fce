use Rattle.std.proofs.Common.{◌<◌, length, map, sym, ap, subst, ◌∙◌}
use Rattle.std.proofs.lemmas.List.{length-map}
use Rattle.std.proofs.Math.ListN.{get_or-map}
use Rattle.evidence_format.specs.Evidence.{IsWellFormed}
use Rattle.evidence_format.specs.View.{plain}
use Rattle.evidence_format.proofs.write.push_bodies.Goals as goal

pub push_body-requires : goal.push_body-requires
push_body-requires c =
    let place : c.loop-evidence.evidence-index < length (map plain c.args.claims.now) = rw length-map c.loop-evidence-test.true in
    let fit = c.requires c.loop-evidence.evidence-index (plain c.evidence-item.result) place in
    let same = get_or-map plain c.args.claims.now c.loop-evidence.evidence-index c.evidence-item.result in
    subst IsWellFormed (same ∙ ap plain (sym c.evidence-item.is)) fit
