use Rattle.std.proofs.Common.{◌≡◌, ◌*◌, List, ℕ, refl, subst, ◌∙◌, arith}
use Rattle.drill.specs.Numbers.{hidden_timeline}
use Rattle.drill.proofs.Fitting.{hidden_intervals_fit}
use Rattle.net_build.specs.Built.{IsNetOf}
use Rattle.net_core.specs.Nets.{points}
use Rattle.net_core.specs.Ranks.{timeline_of}
use Rattle.tml_refs.specs.Documents.{PlainDocument}
use Rattle.order_answers.specs.Drill.{AreFigures, IsGreatest, OfDrill}
use Rattle.runs.specs.declared.answer.Finding.TheVariants as findings
use Rattle.order_answers.proofs.Drills.{as_many_points}
use Rattle.order_answers.proofs.Entailments.{rows_follow}
use Rattle.answers.proofs.Reporting.{reported}
use Rattle.order_answers.proofs.Timelines.{least_fits}
use Rattle.order_answers.proofs.drill_command.of_document.Goals as goal

pub table_of-requires : goal.table_of-requires
table_of-requires c =
    let built = subst (λ (contents : PlainDocument). IsNetOf contents c.in_ok-net.net) c.requires.contents c.in_ok-net.ensures.net in
    (hidden_timeline c.args.n, hidden_intervals_fit c.args.n c.in_ok-net.net c.requires.drill built)

pub greatest-requires : goal.greatest-requires
greatest-requires c =
    let built = subst (λ (contents : PlainDocument). IsNetOf contents c.in_ok-net.net) c.requires.contents c.in_ok-net.ensures.net in
    let many : points c.in_ok-net.net ≡ 2 * c.args.n = as_many_points c.args.n c.in_ok-net.net built in
    rw c.as_slice.ensures.value (omega (arith, c.in_ok-ranks.ensures.size, c.in_ok-table.ensures.closure.size, many, c.requires.drill.0))

pub returns : goal.returns
returns c =
    let net = c.in_ok-net.net in
    let table = c.in_ok-table.table in
    let closure = c.in_ok-table.ensures.closure in
    let ranks = c.in_ok-ranks.ranks in
    let all = c.in_ok-relations.ensures in
    let are : AreFigures c.args.n _ = record {
      net = net;
      ranks = ranks;
      rows = all.0;
      has_net = (c.args.document.now, c.requires.says, c.in_ok-net.ensures.net);
      least = (c.in_ok-ranks.ensures.size ∙ closure.size, least_fits net table (timeline_of ranks) closure c.in_ok-ranks.ensures.least);
      follow = (rows_follow net table closure all.0).0 all.1;
      drill = refl;
      bytes = c.requires.bytes;
      links = c.links.ensures.count;
      greatest = subst (λ (numbers : List ℕ). IsGreatest numbers c.greatest.result) c.as_slice.ensures.value c.greatest.ensures;
      relations = all.2;
    } in
    reported (OfDrill c.args.n) c.with_verdict.result findings.Done _ c.with_verdict.ensures.finding c.with_verdict.ensures.text (_, are, refl)
