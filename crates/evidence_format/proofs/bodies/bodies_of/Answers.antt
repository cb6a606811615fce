use Rattle.evidence_format.proofs.BodyTexts.{bodies_cut, bodies_read}
use Rattle.evidence_format.proofs.bodies.bodies_of.Goals as goal

pub slice_bounds-result-count : goal.slice_bounds-result-count
slice_bounds-result-count c =
    let passed = c.in_ok-rest.ensures in
    (bodies_cut c.in_ok-count.count c.in_ok-count.bodies.now c.in_ok-rest.rest.now passed.0 passed.1).1

pub returns : goal.returns
returns c =
    let passed = c.in_ok-rest.ensures in
    let cut = bodies_cut c.in_ok-count.count c.in_ok-count.bodies.now c.in_ok-rest.rest.now passed.0 passed.1 in
    let read = bodies_read c.args.text.now c.in_ok-count.bodies.now c.in_ok-rest.rest.now c.in_ok-count.count passed.0 c.in_ok-count.ensures passed.1 c.in_ok-end_at.ensures in
    (passed.0, read, (cut.0, cut.2))
