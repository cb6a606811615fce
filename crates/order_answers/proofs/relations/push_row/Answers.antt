use Rattle.std.proofs.Common.{ℕ, Bor, List, ap, map, ◌++◌, ◌∙◌, arith}
use Rattle.std.proofs.lemmas.List.{length-map}
use Rattle.order_answers.proofs.RowLines.{end_there, row_more}
use Rattle.order_answers.proofs.relations.push_row.Goals as goal

pub returns-clause-line : goal.returns-clause-line
returns-clause-line c = λ contents are.
    let names = c.args.names.now in
    let texts = map (λ (name : Bor (List ℕ)). name.now) names in
    let row = c.args.row.now in
    let many = length-map names (λ (name : Bor (List ℕ)). name.now) in
    let end = end_there names c.args.ends.now row.b _ c.requires.ends c.requires.b c.index-ends-row.is in
    row_more contents texts row c.args.out.now.items _ _ are (omega (arith, c.requires.a, many)) (omega (arith, c.requires.b, many)) c.in_ok-begin.ensures.text
    (c.in_ok-extend_from_slice.ensures.items ∙ ap (λ (end : List ℕ). c.begin.new.out.items ++ end) (c.deref.ensures.value ∙ end))
