use Rattle.std.proofs.Common.{◌≡◌, ℕ, List, subst, ◌∙◌, arith}
use Rattle.drill.proofs.Short.{drill_is_short}
use Rattle.drill.specs.Texts.{drill_document}
use Rattle.tml_accept.specs.Acceptance.{FirstFault, Says}
use Rattle.tml_accept.specs.Refusals.{IsRefusal}
use Rattle.order_answers.proofs.Drills.{no_fault, only_drawn}
use Rattle.order_answers.proofs.drill_command.drill_summary.Goals as goal

pub accept-requires : goal.accept-requires
accept-requires c = rw (c.as_slice.ensures, c.in_ok-doc.ensures) (omega (arith, drill_is_short c.args.n c.requires))

pub unreachable-requires : goal.unreachable-requires
unreachable-requires c =
    let doc : c.as_slice.result.now ≡ drill_document c.args.n = c.as_slice.ensures ∙ c.in_ok-doc.ensures in
    let is : FirstFault c.as_slice.result.now c.in-Err-Fault.field-0-0 c.in-Err-Fault.field-0-1 = subst (IsRefusal c.as_slice.result.now) c.in-Err-Fault.field-0-is c.in-Err-Fault.ensures.err in
    no_fault c.args.n c.in-Err-Fault.field-0-0 c.in-Err-Fault.field-0-1 c.requires (subst (λ (bytes : List ℕ). FirstFault bytes c.in-Err-Fault.field-0-0 c.in-Err-Fault.field-0-1) doc is)

pub of_document-requires-clause-contents : goal.of_document-requires-clause-contents
of_document-requires-clause-contents c =
    let doc : c.as_slice.result.now ≡ drill_document c.args.n = c.as_slice.ensures ∙ c.in_ok-doc.ensures in
    only_drawn c.args.n c.in-Ok.document c.requires (subst (λ (bytes : List ℕ). Says bytes c.in-Ok.document) doc c.in-Ok.ensures.ok)
