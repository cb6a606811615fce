use Rattle.std.proofs.Common.{arith}
use Rattle.std.proofs.lemmas.Result.{IfOk-weaker}
use Rattle.evidence_format.proofs.SmallRanks.{small_ranks}
use Rattle.order_answers.specs.Ask.{IsCounterText}
use Rattle.net_answers.proofs.Sizes.{AreSmallRanks, counter_size}
use Rattle.order_answers.proofs.ask.deciding.counterexample_text.Goals as goal

pub evidence_text-requires : goal.evidence_text-requires
evidence_text-requires c = (
  omega (arith, c.requires.a, c.requires.few),
  omega (arith, c.requires.b, c.requires.few),
  small_ranks c.args.table.now.points c.in_ok-ranks.ranks (omega (arith, c.requires.few)) c.in_ok-ranks.ensures.size c.in_ok-ranks.ensures.small,
)

pub returns : goal.returns
returns c =
    let ranks = c.in_ok-ranks.ranks in
    let size = c.in_ok-ranks.ensures.size in
    let few = c.requires.few in
    let small : AreSmallRanks ranks = (omega (arith, size, few), λ p lt. let below = c.in_ok-ranks.ensures.small p (omega (arith, lt, size)) in omega (arith, below, few)) in
    IfOk-weaker c.evidence_text.result _ (λ text. IsCounterText c.args.table.now c.args.a c.args.rel c.args.b c.args.atom text.items)
    (λ text is. (ranks, size, c.in_ok-ranks.ensures.least, is, counter_size c.args.a c.args.b c.args.rel ranks text.items (omega (arith, c.requires.a, few)) (omega (arith, c.requires.b, few)) small is)) c.evidence_text.ensures
