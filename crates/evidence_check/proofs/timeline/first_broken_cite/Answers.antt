use Rattle.std.proofs.Common.{◌≡◌, ◌≢◌, ◌∙◌, ℕ, ◌<◌, arith, slice_index, subst, sym}
use Rattle.std.proofs.lemmas.List.Elements.{Contains-get_or}
use Rattle.std.proofs.lemmas.List.{get_or_default}
use Rattle.net_core.specs.Fits.{KeepsLink}
use Rattle.net_core.specs.Ranks.{timeline_of}
use Rattle.evidence_check.proofs.Cites.{earlier_cite}
use Rattle.evidence_check.proofs.timeline.first_broken_cite.Goals as goal

pub returns-then-not-keeps_link : goal.returns-then-not-keeps_link
returns-then-not-keeps_link c =
    let cites = c.args.cites.now in
    let k = c.loop-cite.cite-index in (
      c.requires.cites.links k c.loop-cite-test.true,
      (λ holds. cc (c.if-not-keeps_link.ensures.1 (holds (Contains-get_or cites k 0 c.loop-cite-test.true, c.if-cite-own.true)))),
      λ j below other.
          let i = other.0.0 in
          let cited : slice_index cites i ≡ j = get_or_default cites i 0 j other.0.1 ∙ other.0.2 in
          let less = earlier_cite c.args.net.now cites c.requires.cites i k other.0.1 (subst (λ (x : ℕ). x < slice_index cites k) (sym cited) below) in
          subst (KeepsLink c.args.net.now (timeline_of c.args.ranks.now)) cited (c.loop-cite.invariant i less (subst (λ (x : ℕ). x ≢ c.args.own) (sym cited) other.1)),
    )

pub returns : goal.returns
returns c j below other =
    let cites = c.args.cites.now in
    let i = other.0.0 in
    let cited : slice_index cites i ≡ j = get_or_default cites i 0 j other.0.1 ∙ other.0.2 in
    subst (KeepsLink c.args.net.now (timeline_of c.args.ranks.now)) cited
    (c.loop-cite.invariant i (omega (arith, other.0.1, c.loop-cite-test.false)) (subst (λ (x : ℕ). x ≢ c.args.own) (sym cited) other.1))
