use Rattle.std.proofs.Common.{Option, refl, subst}
use Rattle.std.specs.Option.{IfSome}
use Rattle.order_closure.specs.Tables.{Table}
use Rattle.clash.specs.Closures.{IsClosureOf}
use Rattle.clash.proofs.Exact.{one_fits}
use Rattle.runs.specs.declared.answer.Finding.TheVariants as findings
use Rattle.answers.proofs.Reporting.{reported}
use Rattle.score_answers.specs.Score.{OfKey}
use Rattle.score_answers.proofs.score.AgainstNetQuery.answer.Goals as goal

pub score-requires-clause-key : goal.score-requires-clause-key
score-requires-clause-key c =
    let net = c.in_ok-key_net.key_net in
    let table = c.in-Some.key_closure in
    let closure = subst (λ (found : Option Table). IfSome found (IsClosureOf net)) c.in-Some.is c.in_ok-key_closure.ensures.some in
    record { net = c.in_ok-key_net.ensures.net; closure = closure; fits = one_fits net table c.points.ensures.closed closure.size closure.keeps }

pub returns : goal.returns
returns c =
    let net = c.in_ok-key_net.key_net in
    let table = c.in-Some.key_closure in
    let closure = subst (λ (found : Option Table). IfSome found (IsClosureOf net)) c.in-Some.is c.in_ok-key_closure.ensures.some in
    let fits = one_fits net table c.points.ensures.closed closure.size closure.keeps in
    reported (OfKey c.args.self.now.key.now c.args.document.now c.args.net.now) c.scores_answer.result findings.Done _ c.scores_answer.ensures.finding c.scores_answer.ensures.text
    (net, c.in_ok-key_net.ensures.net, (fits, c.in_ok-scores.scores, c.in_ok-scores.ensures, refl))
