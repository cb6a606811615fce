-- A net that some timeline fits has one text of the links that stay.
use Rattle.std.proofs.Common.{◌≡◌, ℕ, List, refl, sym, ap, ◌∙◌}
use Rattle.net_answers.specs.Nets.{ClashIsFree}
use Rattle.net_answers.proofs.Answering.{NetsAreAnswered}
use Rattle.net_answers.proofs.Nets.{net_rows_answered}
use Rattle.net_core.specs.Nets.{PlainNet}
use Rattle.tml_refs.specs.Documents.{PlainDocument}
use Rattle.runs.specs.declared.status.Status.{Status}
use Rattle.runs.specs.declared.status.Status.TheVariants.{Clash, Done}
use Rattle.runs.proofs.Answering.{AreAnswered, one_answer}
use Rattle.tml_score.proofs.Redundancy.{every_net_is_reduced, one_reduced_list}
use Rattle.score_answers.specs.Reduce.{OfReduce, reduce_rows, reduced_text}

done : (contents : PlainDocument) (net : PlainNet) (status : Status) (text : List ℕ) → OfReduce contents net status text → status ≡ Done
done contents net Done text h = refl
done contents net status text h = absurd h

lists : NetsAreAnswered OfReduce
lists contents net is fits =
    let found = every_net_is_reduced net is fits in
    one_answer (OfReduce contents net) (λ status. status ≡ Clash) Done refl (done contents net)
    (λ text line determined h k. h.2 ∙ ap (reduced_text contents) (one_reduced_list net h.0 k.0 h.1 k.1) ∙ sym k.2) (reduced_text contents found.0) (found.0, found.1, refl)

pub reduce_answered : (name : List ℕ) → AreAnswered (reduce_rows name) ClashIsFree
reduce_answered name = net_rows_answered OfReduce lists name
