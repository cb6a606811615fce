use Rattle.std.proofs.Common.{◌<◌, length, ap, ◌∙◌, arith, below_more, inl, inr, length-append, rules}
use Rattle.walks.specs.Graphs.{IsWay}
use Rattle.walks.specs.States.{IsExpanded}
use Rattle.walks.proofs.SearchLaws.{expanded_kept, traced_grown}
use Rattle.walks.proofs.StateLaws.{grown_entry}
use Rattle.walks.proofs.search.search.Goals as goal
use Rattle.walks.proofs.search.search.Goals.{then-loop-head-test+else-not-has_end, else-loop-head-test}

pub loop-head-preserved : goal.loop-head-preserved
loop-head-preserved c =
    let Chosen = IsWay c.args.net.now c.args.graph.now in
    let old = c.loop-head.states in
    let new = c.expand.new.states in
    let head = c.loop-head.head in
    let grown = c.in_ok-expand.ensures.grown in
    let was = c.loop-head.invariant in
    let lt : head < length old.entries = omega (arith, c.len.ensures.count, c.loop-head-test.true) in
    let long = ap length grown.entries ∙ length-append old.entries grown.more in
    record {
      points = grown.points ∙ was.points;
      some = let some = was.some in omega arith;
      start = grown_entry Chosen head 0 old new was.some grown ∙ was.start;
      traced = traced_grown Chosen c.args.from head old new lt grown was.traced;
      head = omega arith;
      expanded = below_more (IsExpanded Chosen new.entries) head (λ k lk. expanded_kept Chosen head k old new (omega arith) grown (was.expanded k lk)) c.in_ok-expand.ensures.expanded;
    }

pub returns : goal.returns
returns c =
    let Chosen = IsWay c.args.net.now c.args.graph.now in
    let was = c.loop-head.invariant in
    let entries = c.loop-head.states.entries in
    record {
      points = was.points;
      some = was.some;
      start = was.start;
      traced = was.traced;
      done = elim c.loop-head-test.branch [
        | then-loop-head-test+else-not-has_end w ↦ inl (w.has_end.ensures (search rules))
        | else-loop-head-test w ↦ inr (λ k lk. was.expanded k (omega (arith, c.len.ensures.count, w.loop-head-test.false)))
      ];
    }
