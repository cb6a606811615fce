use Rattle.std.proofs.Common.{◌≡◌, ◌++◌, ◌∷◌, [], FitsSigned, w64, ◌∙◌, arith, rules}
use Rattle.std.proofs.lemmas.Int.{to_z-of_z}
use Rattle.std.proofs.lemmas.Result.{err_from_is_err_and}
use Rattle.line_texts.specs.Lines.{lines_of}
use Rattle.line_texts.specs.Reading.{line_at, many_at}
use Rattle.line_texts.proofs.Loops.{goes_on, ends, is_done}
use Rattle.seconds_format.specs.Texts.{pairs_of_seconds}
use Rattle.seconds_format.specs.Words.{pair_of}
use Rattle.seconds_format.proofs.placing.pairs_at.Goals as goal

pub returns-in_err-start-clause-pairs : goal.returns-in_err-start-clause-pairs
returns-in_err-start-clause-pairs c =
    let p = err_from_is_err_and c.from_residual.result c.from_residual.ensures.1 in
    rw (p.1, p.2) (ends (line_at pair_of) c.in_err-start.field-0.0 (pairs_of_seconds c.loop.seconds) c.args.count c.loop.counter (lines_of c.loop.rest.now) (many_at (line_at pair_of) c.args.count (lines_of c.args.text.now)) c.loop-test.true c.in_err-start.ensures c.loop.invariant.pairs)

pub loop-preserved : goal.loop-preserved
loop-preserved c =
    let start = c.in_ok-start.start in
    let finish = c.in_ok-start.finish in
    let start_fits : FitsSigned w64 start = search rules in
    let finish_fits : FitsSigned w64 finish = search rules in
    let same : pairs_of_seconds c.push_pair.new.seconds ≡ pairs_of_seconds c.loop.seconds ++ (start, finish) ∷ [] = c.in_ok-push_pair.ensures.pairs ∙ (λ i. pairs_of_seconds c.loop.seconds ++ (to_z-of_z w64 start start_fits i, to_z-of_z w64 finish finish_fits i) ∷ []) in
    record {
      pairs = rw same (goes_on (line_at pair_of) (pairs_of_seconds c.loop.seconds) c.args.count c.loop.counter (lines_of c.loop.rest.now) (c.in_ok-start.start, c.in_ok-start.finish) (lines_of c.in_ok-start.after.now) (many_at (line_at pair_of) c.args.count (lines_of c.args.text.now)) c.loop-test.true c.in_ok-start.ensures c.loop.invariant.pairs);
      size = omega (arith, c.in_ok-push_pair.ensures.size, c.loop.invariant.size);
    }

pub returns-clause-pairs : goal.returns-clause-pairs
returns-clause-pairs c = is_done (line_at pair_of) (pairs_of_seconds c.loop.seconds) c.args.count c.loop.counter (lines_of c.loop.rest.now) (many_at (line_at pair_of) c.args.count (lines_of c.args.text.now)) c.loop-test.false c.loop.invariant.pairs
