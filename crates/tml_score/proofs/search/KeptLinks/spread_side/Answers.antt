use Rattle.std.proofs.Common.{◌≡◌, ◌+◌, ◌<◌, Ok, ℕ, Bool, true, false, get_or, sym, subst, ◌∙◌, arith}
use Rattle.std.proofs.lemmas.Bool.{OnTrue_at}
use Rattle.std.proofs.lemmas.List.Elements.{All-contains, All-get_or}
use Rattle.net_orders.specs.declared.orders.Order.{Order}
use Rattle.tml_score.specs.Ends.{far_end_of, opposite}
use Rattle.tml_score.specs.Meeting.{ShareNoPoint, IsOn, IsPassedAt, IsSide, VisitsPoint}
use Rattle.tml_score.specs.Reached.{PlainReached}
use Rattle.tml_score.specs.Search.{ExtendsReached, IsRemainingWay, basis_of, remains}
use Rattle.tml_score.specs.Tree.{no_order}
use Rattle.tml_score.proofs.Searching.{asked_range}
use Rattle.tml_score.proofs.GraphLaws.{at_end, by_points}
use Rattle.tml_score.proofs.Spreading.{extends_none, extends_then, marked_link}
use Rattle.tml_score.proofs.TwoSided.{at_turn, passed_at_one, side_visited}
use Rattle.tml_score.proofs.search.KeptLinks.spread_side.Goals as goal
use Rattle.tml_score.proofs.search.KeptLinks.spread_side.Goals.{then-remains+else-joins+in_ok-visit+else-branch, else-remains}

pub of_point-order-items-requires : goal.of_point-order-items-requires
of_point-order-items-requires c = omega (arith, c.point-point.ensures.room, c.requires.own.room, by_points c.args.self.now.net.now c.args.self.now.graph.now c.requires.ready.graph c.args.near)

pub remains-requires : goal.remains-requires
remains-requires c =
    let basis = basis_of c.args.self.now in
    let items = c.of_point-order-items.result.now in
    let i = c.loop-order.order-index in
    let turn = at_turn basis c.args.asked c.requires.ready c.requires.asked c.args.near items c.point-point.result i c.of_point-order-items.ensures c.loop-order-test.true in
    marked_link basis c.requires.ready (get_or items i no_order) turn.of_net

pub joins-requires-clause-point : goal.joins-requires-clause-point
joins-requires-clause-point c =
    let turn = at_turn (basis_of c.args.self.now) c.args.asked c.requires.ready c.requires.asked c.args.near c.of_point-order-items.result.now c.point-point.result c.loop-order.order-index c.of_point-order-items.ensures c.loop-order-test.true in
    omega (arith, turn.far, c.across-far.ensures)

pub visit-requires : goal.visit-requires
visit-requires c =
    let basis = basis_of c.args.self.now in
    let turn = at_turn basis c.args.asked c.requires.ready c.requires.asked c.args.near c.of_point-order-items.result.now c.point-point.result c.loop-order.order-index c.of_point-order-items.ensures c.loop-order-test.true in
    let ends = asked_range basis c.args.asked c.requires.ready c.requires.asked in
    let size = c.requires.ready.closure.size in
    record {
      first = omega (arith, ends.0, size);
      point = omega (arith, turn.far, size, c.across-far.ensures);
      own = c.loop-order.invariant.side.room ∙ sym size;
      other = c.requires.other.room ∙ sym size;
    }

pub loop-order-init : goal.loop-order-init
loop-order-init c = record { side = c.requires.own; extends = extends_none c.args.own.now; apart = c.requires.apart; passed = λ k d lt. absurd (omega arith) }

pub loop-order-preserved : goal.loop-order-preserved
loop-order-preserved c =
    let basis = basis_of c.args.self.now in
    let asked = c.args.asked in
    let near = c.args.near in
    let P = IsOn near basis asked in
    let items = c.of_point-order-items.result.now in
    let i = c.loop-order.order-index in
    let o = get_or items i no_order in
    let far = far_end_of near o in
    let old = c.args.own.now in
    let mid = c.loop-order.own in
    let other = c.args.other.now in
    let was = c.loop-order.invariant in
    let turn = at_turn basis asked c.requires.ready c.requires.asked near items c.point-point.result i c.of_point-order-items.ensures c.loop-order-test.true in
    let point : P c.point-point.result = subst P (sym c.point-point.ensures.point) (All-get_or P old.points c.args.turn 0 c.requires.turn c.requires.own.all) in
    let close : (r : PlainReached) → Type 0 = λ r. record {
      side : IsSide basis P r;
      extends : ExtendsReached old r;
      apart : ShareNoPoint r other;
      passed : (k : ℕ) (d : Order) → k < i + 1 → IsRemainingWay basis asked (get_or items k d) → IsPassedAt basis asked r.points (far_end_of near (get_or items k d));
    } in
    elim c.if-remains.branch [
      | then-remains+else-joins+in_ok-visit+else-branch w ↦
          let next = w.visit.new.own in
          let visits : VisitsPoint basis asked far other mid next (Ok false) = subst (λ x. VisitsPoint basis asked x other mid next (Ok false)) w.across-far.ensures (subst (λ (b : Bool). VisitsPoint basis asked w.across-far.result other mid next (Ok b)) w.if-branch.false w.in_ok-visit.ensures) in
          let now = side_visited basis asked P far other mid next (turn.reaches (sym w.if-remains.ensures) point) was.side was.apart visits in
          subst close (sym w.own-is) (record {
            side = now.0;
            extends = extends_then old mid next was.extends now.1;
            apart = now.2;
            passed = passed_at_one basis asked near items i no_order mid next c.loop-order-test.true now.1 was.passed (λ _. now.3);
          })
      | else-remains w ↦
          subst close (sym w.own-is) (record {
            side = was.side;
            extends = was.extends;
            apart = was.apart;
            passed = passed_at_one basis asked near items i no_order mid mid c.loop-order-test.true (extends_none mid) was.passed (λ way.
                absurd (let stays = way.1 in let fails : false ≡ remains basis asked o = w.if-remains.ensures in let both : false ≡ true = fails ∙ stays in cc));
          })
    ]

pub returns-then-joins : goal.returns-then-joins
returns-then-joins c =
    let basis = basis_of c.args.self.now in
    let near = c.args.near in
    let P = IsOn near basis c.args.asked in
    let items = c.of_point-order-items.result.now in
    let turn = at_turn basis c.args.asked c.requires.ready c.requires.asked near items c.point-point.result c.loop-order.order-index c.of_point-order-items.ensures c.loop-order-test.true in
    let point : P c.point-point.result = subst P (sym c.point-point.ensures.point) (All-get_or P c.args.own.now.points c.args.turn 0 c.requires.turn c.requires.own.all) in
    (c.loop-order.invariant.side, (c.across-far.result, subst P (sym c.across-far.ensures) (turn.reaches (sym c.if-remains.ensures) point), OnTrue_at c.if-joins.true c.joins.ensures))

pub returns-then-branch : goal.returns-then-branch
returns-then-branch c =
    let basis = basis_of c.args.self.now in
    let asked = c.args.asked in
    let near = c.args.near in
    let P = IsOn near basis asked in
    let items = c.of_point-order-items.result.now in
    let other = c.args.other.now in
    let far = c.across-far.result in
    let turn = at_turn basis asked c.requires.ready c.requires.asked near items c.point-point.result c.loop-order.order-index c.of_point-order-items.ensures c.loop-order-test.true in
    let point : P c.point-point.result = subst P (sym c.point-point.ensures.point) (All-get_or P c.args.own.now.points c.args.turn 0 c.requires.turn c.requires.own.all) in
    let visits : VisitsPoint basis asked far other c.loop-order.own c.visit.new.own (Ok true) = subst (λ (b : Bool). VisitsPoint basis asked far other c.loop-order.own c.visit.new.own (Ok b)) c.if-branch.true c.in_ok-visit.ensures in (
      subst (IsSide basis P) (sym visits.1) c.loop-order.invariant.side,
      (far, subst P (sym c.across-far.ensures) (turn.reaches (sym c.if-remains.ensures) point), All-contains (IsOn (opposite near) basis asked) other.points far c.requires.other.all visits.0),
    )

pub returns : goal.returns
returns c =
    let basis = basis_of c.args.self.now in
    let asked = c.args.asked in
    let was = c.loop-order.invariant in (
      was.side,
      was.extends,
      was.apart,
      λ o way near.
          let (k, lt, e) = (at_end c.args.self.now.net.now c.args.self.now.graph.now c.requires.ready.graph c.args.near c.of_point-order-items.result.now c.point-point.result c.of_point-order-items.ensures o).1 (way.0, near ∙ sym c.point-point.ensures.point) in
          subst (λ (x : Order). IsPassedAt basis asked c.loop-order.own.points (far_end_of c.args.near x)) e (was.passed k o (omega (arith, lt, c.loop-order-test.false)) (subst (IsRemainingWay basis asked) (sym e) way)),
    )
