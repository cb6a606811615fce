-- The printed texts of `confirm`.
use Rattle.std.specs.Prelude.{ℕ, List, ◌++◌, codes}
use Rattle.answers.specs.Lines.{numbered}
use Rattle.seconds_check.specs.declared.refusal.SecondsReason.{SecondsReason}
use Rattle.seconds_check.specs.declared.refusal.SecondsReason.TheVariants.{Size, Order, Link, Bound, Length, Step, End, Sum}
use Rattle.seconds_core.specs.Evidence.{PlainSeconds, Placed, Cycle}

-- what is confirmed
abbrev pub seconds_claim_line : PlainSeconds → List ℕ
seconds_claim_line (Placed seconds) = codes "confirmed placing\n"
seconds_claim_line (Cycle lines) = codes "confirmed cycle\n"

-- why it is refused, with the number of the reason
abbrev pub seconds_reason_text : SecondsReason → List ℕ
seconds_reason_text (Size size) = numbered (codes "Size ") size
seconds_reason_text (Order interval) = numbered (codes "Order ") interval
seconds_reason_text (Link link) = numbered (codes "Link ") link
seconds_reason_text (Bound point) = numbered (codes "Bound ") point
seconds_reason_text (Length interval) = numbered (codes "Length ") interval
seconds_reason_text (Step step) = numbered (codes "Step ") step
seconds_reason_text End = codes "End\n"
seconds_reason_text Sum = codes "Sum\n"

abbrev pub seconds_refusal_line : SecondsReason → List ℕ
seconds_refusal_line reason = codes "seconds " ++ seconds_reason_text reason
