use Rattle.std.specs.Prelude.{codes}
use Rattle.std.proofs.Common.{[], ◌∷◌, ◌++◌, append_assoc}
use Rattle.std.proofs.lemmas.Result.{err_from_is_err_and}
use Rattle.net_core.specs.Ranks.{ranks_of}
use Rattle.line_texts.specs.Lines.{lines_of}
use Rattle.line_texts.specs.Reading.{line_at, many_at}
use Rattle.line_texts.specs.Words.{two_of}
use Rattle.line_texts.proofs.Loops.{goes_on, ends, is_done}
use Rattle.evidence_format.proofs.Parted.{ranks_push}
use Rattle.evidence_format.proofs.timeline.push_ranks_at.Goals as goal

pub returns-in_err-start : goal.returns-in_err-start
returns-in_err-start c =
    let so_far = c.loop.invariant in
    let p = err_from_is_err_and c.from_residual.result c.from_residual.ensures.1 in
    rw (p.1, p.2) (ends (λ rest. line_at (two_of (codes "at ")) rest) c.in_err-start.field-0.0 so_far.0 c.args.count c.loop.counter (lines_of c.loop.rest.now) (many_at (λ rest. line_at (two_of (codes "at ")) rest) c.args.count (lines_of c.args.text.now)) c.loop-test.true c.in_err-start.ensures so_far.2)

pub loop-preserved : goal.loop-preserved
loop-preserved c =
    let so_far = c.loop.invariant in
    let pairs = so_far.0 ++ (c.in_ok-start.start, c.in_ok-start.finish) ∷ [] in (
      pairs,
      rw (c.in_ok-push.ensures.ok, so_far.1, ranks_push so_far.0 c.in_ok-start.start c.in_ok-start.finish) (append_assoc c.args.ranks.now (ranks_of so_far.0) (c.in_ok-start.start ∷ c.in_ok-start.finish ∷ [])),
      goes_on (λ rest. line_at (two_of (codes "at ")) rest) so_far.0 c.args.count c.loop.counter (lines_of c.loop.rest.now) (c.in_ok-start.start, c.in_ok-start.finish) (lines_of c.in_ok-start.after.now) (many_at (λ rest. line_at (two_of (codes "at ")) rest) c.args.count (lines_of c.args.text.now)) c.loop-test.true c.in_ok-start.ensures so_far.2,
    )

pub returns : goal.returns
returns c =
    let so_far = c.loop.invariant in (
      so_far.0,
      is_done (λ rest. line_at (two_of (codes "at ")) rest) so_far.0 c.args.count c.loop.counter (lines_of c.loop.rest.now) (many_at (λ rest. line_at (two_of (codes "at ")) rest) c.args.count (lines_of c.args.text.now)) c.loop-test.false so_far.2,
      so_far.1,
    )
