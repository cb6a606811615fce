use Rattle.std.proofs.Common.{codes, inl, inr, refl}
use Rattle.std.proofs.lemmas.Option.{slice_get_within}
use Rattle.std.proofs.lemmas.Result.{IfOk-weaker}
use Rattle.net_answers.specs.Nets.{of_net}
use Rattle.order_answers.specs.Ask.{Name, OfAsk, of_numbers}
use Rattle.answers.proofs.Reporting.{is_none, reported}
use Rattle.runs.specs.View.{finding_status}
use Rattle.runs.specs.declared.answer.Answer.{Answer}
use Rattle.runs.specs.declared.answer.Finding.TheVariants as findings
use Rattle.order_answers.proofs.ask.AskDocumentQuery.answer.Goals as goal

pub returns-in_default : goal.returns-in_default
returns-in_default c =
    reported (OfAsk c.args.self.now.x.now c.args.self.now.rel.now c.args.self.now.y.now c.args.document.now) c.unknown_name.result findings.UnknownName (codes "unknown X\n") c.unknown_name.ensures.finding c.unknown_name.ensures.text
    (inl (refl, inl (c.index_of.ensures.none (is_none c.index_of.result c.in_default.not-Some), refl)))

pub returns-in_default-index_of : goal.returns-in_default-index_of
returns-in_default-index_of c =
    reported (OfAsk c.args.self.now.x.now c.args.self.now.rel.now c.args.self.now.y.now c.args.document.now) c.unknown_name-in_default-index_of.result findings.UnknownName (codes "unknown Y\n")
    c.unknown_name-in_default-index_of.ensures.finding c.unknown_name-in_default-index_of.ensures.text
    (inl (
      refl,
      inr (inr (
        (c.in-Some.a, c.in-Some.ensures.some),
        (c.in-Some-rel_of.rel, c.in-Some-rel_of.ensures.some),
        c.index_of-2.ensures.none (is_none c.index_of-2.result c.in_default-index_of.not-Some),
        refl,
      )),
    ))

pub answer_of_net-requires : goal.answer_of_net-requires
answer_of_net-requires c = (
  slice_get_within c.args.document.now.intervals c.in-Some.a c.in-Some.ensures.some.0 c.in-Some.ensures.some.1,
  slice_get_within c.args.document.now.intervals c.in-Some-index_of.b c.in-Some-index_of.ensures.some.0 c.in-Some-index_of.ensures.some.1,
)

pub returns : goal.returns
returns c =
    let contents = c.args.document.now in
    let named : Name contents c.args.self.now.x.now c.args.self.now.rel.now c.args.self.now.y.now c.in-Some.a c.in-Some-rel_of.rel c.in-Some-index_of.b = record { first = c.in-Some.ensures.some; relation = c.in-Some-rel_of.ensures.some; second = c.in-Some-index_of.ensures.some } in
    IfOk-weaker c.answer_of_net.result
    (λ (answer : Answer). of_net (of_numbers c.in-Some.a c.in-Some-rel_of.rel c.in-Some-index_of.b) contents (finding_status answer.finding) answer.text.items)
    (λ (answer : Answer). OfAsk c.args.self.now.x.now c.args.self.now.rel.now c.args.self.now.y.now contents (finding_status answer.finding) answer.text.items)
    (λ answer is. inr (c.in-Some.a, c.in-Some-rel_of.rel, c.in-Some-index_of.b, named, is))
    c.answer_of_net.ensures
