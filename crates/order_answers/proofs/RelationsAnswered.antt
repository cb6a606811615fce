-- A net has one list of the relations that follow.
use Rattle.std.proofs.Common.{◌≡◌, ℕ, List, refl, sym, ap, subst, ◌∙◌}
use Rattle.std.specs.List.{flat_map}
use Rattle.derive_rel.specs.declared.all_rows.Row.{Row}
use Rattle.derive_rel.proofs.OneList.{one_list}
use Rattle.net_answers.specs.Nets.{ClashIsFree}
use Rattle.net_answers.proofs.Answering.{NetsAreAnswered}
use Rattle.net_answers.proofs.Nets.{net_rows_answered}
use Rattle.net_core.specs.Nets.{PlainNet}
use Rattle.tml_refs.specs.Documents.{PlainDocument}
use Rattle.runs.specs.declared.status.Status.{Status}
use Rattle.runs.specs.declared.status.Status.TheVariants.{Clash, Done}
use Rattle.runs.proofs.Answering.{AreAnswered, one_answer}
use Rattle.order_answers.specs.Relations.{AreRelations, FollowsBetween, OfRelations, relations_rows, row_line}
use Rattle.order_answers.proofs.Fitting.{some_relations}

-- a net has one list of relations that follow
pub one_list_of : (net other : PlainNet) (rows rest : List Row) → net ≡ other → AreRelations net rows → AreRelations other rest → rows ≡ rest
one_list_of net other rows rest same are too = one_list (FollowsBetween other) rows rest (subst (λ (n : PlainNet). AreRelations n rows) same are) too

done : (contents : PlainDocument) (net : PlainNet) (status : Status) (text : List ℕ) → OfRelations contents net status text → status ≡ Done
done contents net Done text h = refl
done contents net status text h = absurd h

lists : NetsAreAnswered OfRelations
lists contents net is fits =
    let found = some_relations net is fits in
    one_answer (OfRelations contents net) (λ status. status ≡ Clash) Done refl (done contents net)
    (λ text line determined h k. h.2 ∙ ap (flat_map (row_line contents)) (one_list_of net net h.0 k.0 refl h.1 k.1) ∙ sym k.2) (flat_map (row_line contents) found.0) (found.0, found.1, refl)

pub relations_answered : (name : List ℕ) → AreAnswered (relations_rows name) ClashIsFree
relations_answered name = net_rows_answered OfRelations lists name
