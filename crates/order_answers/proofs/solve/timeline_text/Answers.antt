use Rattle.std.proofs.Common.{◌≤◌, length, refl, arith}
use Rattle.std.proofs.lemmas.Result.{IfOk-weaker}
use Rattle.evidence_format.proofs.SmallRanks.{small_ranks}
use Rattle.net_answers.proofs.Sizes.{timeline_size}
use Rattle.net_core.specs.Limits.{max_printed}
use Rattle.order_answers.proofs.solve.timeline_text.Goals as goal

pub evidence_text-requires : goal.evidence_text-requires
evidence_text-requires c = small_ranks (length c.args.ranks) c.args.ranks (omega (arith, c.requires.few)) refl c.requires.small

pub returns-clause-short : goal.returns-clause-short
returns-clause-short c =
    let few = c.requires.few in
    IfOk-weaker c.evidence_text.result _ (λ text. length text.items ≤ max_printed) (λ text is. timeline_size c.args.ranks text.items (few, λ p lt. let small = c.requires.small p lt in omega (arith, small, few)) is) c.evidence_text.ensures
