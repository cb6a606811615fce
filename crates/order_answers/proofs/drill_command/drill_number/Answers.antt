use Rattle.std.proofs.Common.{◌≡◌, sym, ap, ◌∙◌, arith}
use Rattle.std.specs.Prelude.{decimal}
use Rattle.std.specs.Str.{bytes_eq}
use Rattle.std.proofs.lemmas.Bool.{both_ways}
use Rattle.std.proofs.lemmas.Fmt.{parse-decimal}
use Rattle.std.proofs.lemmas.Slice.Eq.{bytes_eq-Decides}
use Rattle.order_answers.proofs.DrillNumbers.{drill_found, no_drill_found}
use Rattle.order_answers.proofs.drill_command.drill_number.Goals as goal
use Rattle.order_answers.proofs.drill_command.drill_number.Goals.{else-n-ge1-via-then-n-ge1+then-n-le-MAX_INTERVALS+else-eq, else-n-ge1-via-then-n-ge1+else-n-le-MAX_INTERVALS, else-n-ge1-via-else-n-ge1}

pub returns-in_default-clause-number : goal.returns-in_default-clause-number
returns-in_default-clause-number c =
    sym (no_drill_found c.args.word.now (λ n drill is. c.in_default.not-Ok n (parse-decimal 32 n c.args.word.now c.parse.result (omega (arith, drill.1)) (omega (arith, drill.1)) is c.parse.ensures.value.0)))

pub returns-then-eq-clause-number : goal.returns-then-eq-clause-number
returns-then-eq-clause-number c =
    let same = (bytes_eq-Decides c.format.result.now c.args.word.now).0 (sym c.eq.ensures ∙ c.if-eq.true) in
    sym (drill_found c.in-Ok.n c.args.word.now (c.if-n-ge1.true, c.if-n-le-MAX_INTERVALS.true) (sym same ∙ c.format.ensures.text))

pub returns-else-n-ge1-clause-number : goal.returns-else-n-ge1-clause-number
returns-else-n-ge1-clause-number c =
    sym (no_drill_found c.args.word.now (λ n drill is.
    let read = parse-decimal 32 n c.args.word.now c.parse.result (omega (arith, drill.1)) (omega (arith, drill.1)) is c.parse.ensures.value.0 in
    let same : n ≡ c.in-Ok.n = cc (sym read ∙ c.in-Ok.is) in
    elim c.else-n-ge1.branch [
      | else-n-ge1-via-then-n-ge1+then-n-le-MAX_INTERVALS+else-eq w ↦
          both_ways (bytes_eq w.format.result.now c.args.word.now) (sym w.eq.ensures ∙ w.if-eq.false) ((bytes_eq-Decides w.format.result.now c.args.word.now).1 (w.format.ensures.text ∙ ap decimal (sym same) ∙ sym is))
      | else-n-ge1-via-then-n-ge1+else-n-le-MAX_INTERVALS w ↦ let more = w.if-n-le-MAX_INTERVALS.false in omega (arith, same, more, drill.1)
      | else-n-ge1-via-else-n-ge1 w ↦ let less = w.if-n-ge1.false in omega (arith, same, less, drill.0)
    ]))
