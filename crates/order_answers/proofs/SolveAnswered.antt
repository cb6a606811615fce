-- A net that some timeline fits has one text of its least timeline.
use Rattle.std.proofs.Common.{◌≡◌, ℕ, List, refl}
use Rattle.net_answers.specs.Nets.{ClashIsFree}
use Rattle.net_answers.proofs.Answering.{NetsAreAnswered}
use Rattle.net_answers.proofs.Nets.{net_rows_answered}
use Rattle.net_core.specs.Nets.{PlainNet}
use Rattle.tml_refs.specs.Documents.{PlainDocument}
use Rattle.runs.specs.declared.status.Status.{Status}
use Rattle.runs.specs.declared.status.Status.TheVariants.{Clash, Done}
use Rattle.runs.proofs.Answering.{AreAnswered, one_answer}
use Rattle.order_answers.specs.Solve.{OfSolve, solve_rows}
use Rattle.order_answers.proofs.Fitting.{some_timeline}
use Rattle.order_answers.proofs.Timelines.{one_timeline}

done : (contents : PlainDocument) (net : PlainNet) (status : Status) (text : List ℕ) → OfSolve contents net status text → status ≡ Done
done contents net Done text h = refl
done contents net status text h = absurd h

timelines : NetsAreAnswered OfSolve
timelines contents net is fits =
    let shown = some_timeline net is fits in
    one_answer (OfSolve contents net) (λ status. status ≡ Clash) Done refl (done contents net) (λ text line determined h k. one_timeline net text line h k) shown.0 shown.1

pub solve_answered : (name : List ℕ) → AreAnswered (solve_rows name) ClashIsFree
solve_answered name = net_rows_answered OfSolve timelines name
