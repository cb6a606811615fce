use Rattle.std.proofs.Common.{ℕ, below_more}
use Rattle.net_core.specs.Nets.{link_at}
use Rattle.seconds_core.specs.Placed.{KeepsLinkInSeconds}
use Rattle.seconds_check.proofs.placing.first_broken.Goals as goal

pub loop-link-preserved : goal.loop-link-preserved
loop-link-preserved c =
    let Keeps : ℕ → Type 0 = λ k. KeepsLinkInSeconds c.args.seconds.now (link_at c.args.timed.now.net k) in
    (c.loop-link.invariant.0, below_more Keeps c.loop-link.link c.loop-link.invariant.1 (c.keeps_link.ensures.0 c.if-not-keeps_link.false))
