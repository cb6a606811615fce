use Rattle.std.proofs.Common.{◌<◌, false, slice_index_or, below_more, arith}
use Rattle.std.specs.List.{Contains}
use Rattle.net_core.specs.Limits.{max_links}
use Rattle.net_core.specs.Clashes.{Agrees}
use Rattle.net_core.specs.Walks.{GoesOver}
use Rattle.evidence_check.proofs.Marks.{alike, all_agree, are_alike, are_apart, newly_marked}
use Rattle.evidence_check.proofs.closed_walks.first_disagreement.Goals as goal

pub returns-then-use_marked : goal.returns-then-use_marked
returns-then-use_marked c k below =
    let cited = c.mark_cites.new.marks in
    let traversed = c.mark_steps.new.marks in
    all_agree cited traversed c.args.cites.now c.args.steps.now (newly_marked cited (Contains c.args.cites.now) c.mark_cites.ensures.length c.mark_cites.ensures.marked)
    (newly_marked traversed (GoesOver c.args.steps.now) c.mark_steps.ensures.length c.mark_steps.ensures.marked)
    (c.are_marked.ensures.0 c.if-are_marked.true) (c.use_marked.ensures.0 c.if-use_marked.true) k (omega (arith, below, c.links-count.ensures.net.few_links))

pub returns-then-cited-k : goal.returns-then-cited-k
returns-then-cited-k c =
    let k = c.loop-k.k in
    let cited = c.mark_cites.new.marks in
    let traversed = c.mark_steps.new.marks in
    let few : k < max_links = omega (arith, c.loop-k-test.true, c.links-count.ensures.count, c.links-count.ensures.net.few_links) in
    let same = alike cited traversed c.args.cites.now c.args.steps.now (newly_marked cited (Contains c.args.cites.now) c.mark_cites.ensures.length c.mark_cites.ensures.marked)
    (newly_marked traversed (GoesOver c.args.steps.now) c.mark_steps.ensures.length c.mark_steps.ensures.marked) k few in (
      omega (arith, c.loop-k-test.true, c.links-count.ensures.count),
      (λ agrees. are_apart (slice_index_or cited k false) (slice_index_or traversed k false) c.if-cited-k.true (same.1 agrees)),
      c.loop-k.invariant.so_far,
    )

pub loop-k-preserved : goal.loop-k-preserved
loop-k-preserved c =
    let k = c.loop-k.k in
    let cited = c.mark_cites.new.marks in
    let traversed = c.mark_steps.new.marks in
    let few : k < max_links = omega (arith, c.loop-k-test.true, c.links-count.ensures.count, c.links-count.ensures.net.few_links) in
    let same = alike cited traversed c.args.cites.now c.args.steps.now (newly_marked cited (Contains c.args.cites.now) c.mark_cites.ensures.length c.mark_cites.ensures.marked)
    (newly_marked traversed (GoesOver c.args.steps.now) c.mark_steps.ensures.length c.mark_steps.ensures.marked) k few in
    record {
      end = c.loop-k.invariant.end;
      so_far = below_more (Agrees c.args.cites.now c.args.steps.now) k c.loop-k.invariant.so_far
          (same.0 (are_alike (slice_index_or cited k false) (slice_index_or traversed k false) c.if-cited-k.false));
    }

pub returns : goal.returns
returns c i below = c.loop-k.invariant.so_far i (omega (arith, below, c.loop-k-test.false, c.links-count.ensures.count))
