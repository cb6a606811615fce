use Rattle.std.proofs.Common.{◌≡◌, ◌↔◌, IsTrue, ap, subst, ◌∙◌}
use Rattle.net_core.specs.Nets.{PlainNet, link_at}
use Rattle.net_core.specs.declared.net.NetLink.{NetLink}
use Rattle.seconds_core.specs.Placed.{KeepsLinkInSeconds}
use Rattle.seconds_check.proofs.Links.{orders_say_the_link}
use Rattle.seconds_check.proofs.placing.keeps_link.Goals as goal

pub returns : goal.returns
returns c =
    let seconds = c.args.seconds.now in
    let link = c.link-link.result in
    let same : link ≡ link_at c.args.timed.now.net c.args.link = c.link-link.ensures.link ∙ ap (λ (net : PlainNet). link_at net c.args.link) c.net.ensures.net in
    let says = orders_say_the_link seconds link in
    let kept = rw (c.points_of-a.ensures, c.points_of-b.ensures) at c.keeps_relation.ensures in
    subst (λ (l : NetLink). IsTrue c.keeps_relation.result ↔ KeepsLinkInSeconds seconds l) same (λ is. says.0 (kept.0 is), λ keeps. kept.1 (says.1 keeps))
