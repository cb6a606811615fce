use Rattle.std.proofs.Common.{◌≡◌, ◌+◌, ◌<◌, Ok, ℕ, Bool, true, false, get_or, slice_index, sym, subst, ◌∙◌, arith, rules, List, length}
use Rattle.std.specs.List.{Contains}
use Rattle.std.proofs.lemmas.List.Elements.{All-get_or, Contains-get_or}
use Rattle.net_core.specs.Nets.{points}
use Rattle.net_orders.specs.declared.orders.Order.{Order}
use Rattle.tml_score.specs.Reached.{PlainReached}
use Rattle.tml_score.specs.Graph.{AreOfPoint, by_end}
use Rattle.tml_score.specs.declared.search.AskedOrder.{AskedOrder}
use Rattle.tml_score.specs.Search.{Basis, ExtendsReached, GoesOn, IsLed, IsPassed, IsReady, IsSearch, IsThrough, IsRemainingWay, basis_of, remains}
use Rattle.tml_score.specs.Tree.{no_order}
use Rattle.tml_score.specs.declared.ends.End.TheVariants.{From}
use Rattle.tml_score.proofs.GraphLaws.{at_end, in_range}
use Rattle.tml_score.proofs.Searching.{asked_range, passed_away}
use Rattle.tml_score.proofs.Spreading.{extends_none, extends_then, marked_link, passed_one}
use Rattle.tml_score.proofs.search.KeptLinks.spread.Goals as goal
use Rattle.tml_score.proofs.search.KeptLinks.spread.Goals.{else-comes_near-via-then-comes_near+then-remains+in_ok-take+else-branch, else-comes_near-via-then-comes_near+else-remains, else-comes_near-via-else-comes_near}

pub of_point-order-items-requires : goal.of_point-order-items-requires
of_point-order-items-requires c = omega (arith, c.point-point.ensures.room, c.requires.search.room, c.requires.ready.graph.onward_points)

-- the search went on over the first n orders, and each of them is passed
abbrev AreTaken : Basis → AskedOrder → List Order → PlainReached → ℕ → PlainReached → Type 0
AreTaken basis asked items old n new = record {
  search : IsSearch basis asked new;
  extends : ExtendsReached old new;
  passed : (k : ℕ) (d : Order) → k < n → IsRemainingWay basis asked (get_or items k d) → IsPassed basis asked new.points (get_or items k d);
}

-- an order of a point's list is one of the graph, and leaves the point
one_of : (basis : Basis) → IsReady basis → (items : List Order) (point i : ℕ) → AreOfPoint (by_end From basis.graph) point items → i < length items →
    Contains basis.graph.onward.items (get_or items i no_order) × ((get_or items i no_order).atom.from ≡ point)
one_of basis ready items point i exact lt = (at_end basis.net basis.graph ready.graph From items point exact (get_or items i no_order)).0 (Contains-get_or items i no_order lt)

-- and it leads to a point
to_point : (basis : Basis) → IsReady basis → (items : List Order) (point i : ℕ) → AreOfPoint (by_end From basis.graph) point items → i < length items →
    (get_or items i no_order).atom.to < points basis.net
to_point basis ready items point i exact lt =
    (in_range basis.net ready.net basis.graph.onward.items ready.graph.orders (get_or items i no_order) (one_of basis ready items point i exact lt).0).1

pub comes_near-requires : goal.comes_near-requires
comes_near-requires c =
    let basis = basis_of c.args.self.now in
    let to = to_point basis c.requires.ready c.of_point-order-items.result.now c.point-point.result c.loop-order.order-index c.of_point-order-items.ensures c.loop-order-test.true in
    let own = asked_range basis c.args.asked c.requires.ready c.requires.asked in
    record { to = omega (arith, to, c.requires.ready.closure.size); last = omega (arith, own.1, c.requires.ready.closure.size) }

pub remains-requires : goal.remains-requires
remains-requires c =
    let basis = basis_of c.args.self.now in
    let items = c.of_point-order-items.result.now in
    let i = c.loop-order.order-index in
    marked_link basis c.requires.ready (get_or items i no_order) (one_of basis c.requires.ready items c.point-point.result i c.of_point-order-items.ensures c.loop-order-test.true).0

pub take-requires : goal.take-requires
take-requires c =
    let basis = basis_of c.args.self.now in
    let items = c.of_point-order-items.result.now in
    let i = c.loop-order.order-index in
    let o = get_or items i no_order in
    let both = one_of basis c.requires.ready items c.point-point.result i c.of_point-order-items.ensures c.loop-order-test.true in
    let from : o.atom.from ≡ slice_index c.args.reached.now.points c.args.turn = both.1 ∙ c.point-point.ensures.point in
    let through = All-get_or (IsThrough basis c.args.asked) c.args.reached.now.points c.args.turn 0 c.requires.turn c.requires.search.through in
    record {
      ready = c.requires.ready;
      asked = c.requires.asked;
      search = c.loop-order.invariant.search;
      way = (both.0, sym c.if-remains.ensures);
      led = subst (IsLed basis c.args.asked) (sym from) through.led;
    }

pub loop-order-init : goal.loop-order-init
loop-order-init c = record { search = c.requires.search; extends = extends_none c.args.reached.now; passed = λ k d lt. absurd (omega arith) }

pub loop-order-preserved : goal.loop-order-preserved
loop-order-preserved c =
    let basis = basis_of c.args.self.now in
    let asked = c.args.asked in
    let items = c.of_point-order-items.result.now in
    let i = c.loop-order.order-index in
    let o = get_or items i no_order in
    let old = c.args.reached.now in
    let mid = c.loop-order.reached in
    let was = c.loop-order.invariant in
    let to = to_point basis c.requires.ready items c.point-point.result i c.of_point-order-items.ensures c.loop-order-test.true in
    let stays : ((x : Order) → IsRemainingWay basis asked x → x ≡ o → IsPassed basis asked mid.points x) → AreTaken basis asked items old (i + 1) mid = λ one. record {
      search = was.search;
      extends = was.extends;
      passed = passed_one basis asked c.requires.ready c.requires.asked items i no_order mid mid c.loop-order-test.true (extends_none mid) was.passed one;
    } in
    elim c.else-comes_near.branch [
      | else-comes_near-via-then-comes_near+then-remains+in_ok-take+else-branch w ↦
          let next = w.take.new.reached in
          let goes : GoesOn basis asked (λ x. x ≡ o) mid next (Ok false) = subst (λ (b : Bool). GoesOn basis asked (λ x. x ≡ o) mid next (Ok b)) w.if-branch.false w.in_ok-take.ensures in
          subst (AreTaken basis asked items old (i + 1)) (sym w.reached-is) (record {
            search = goes.0;
            extends = extends_then old mid next was.extends goes.1;
            passed = passed_one basis asked c.requires.ready c.requires.asked items i no_order mid next c.loop-order-test.true goes.1 was.passed goes.2;
          })
      | else-comes_near-via-then-comes_near+else-remains w ↦
          subst (AreTaken basis asked items old (i + 1)) (sym w.reached-is) (stays (λ x way same.
          absurd (let on : remains basis asked o ≡ true = subst (λ (y : Order). remains basis asked y ≡ true) same way.1 in let off : false ≡ remains basis asked o = w.if-remains.ensures in let both : false ≡ true = off ∙ on in cc)))
      | else-comes_near-via-else-comes_near w ↦
          subst (AreTaken basis asked items old (i + 1)) (sym w.reached-is) (stays (λ x way same.
          subst (IsPassed basis asked mid.points) (sym same) (passed_away basis asked c.requires.ready c.requires.asked mid.points o to (λ near. let h = w.if-comes_near.ensures.1 near in absurd (search rules)))))
    ]

pub returns : goal.returns
returns c =
    let basis = basis_of c.args.self.now in
    let items = c.of_point-order-items.result.now in
    let was = c.loop-order.invariant in (
      was.search,
      was.extends,
      λ o way from.
          let (k, lt, e) = (at_end c.args.self.now.net.now c.args.self.now.graph.now c.requires.ready.graph From c.of_point-order-items.result.now c.point-point.result c.of_point-order-items.ensures o).1 (way.0, from ∙ sym c.point-point.ensures.point) in
          subst (IsPassed basis c.args.asked c.loop-order.reached.points) e (was.passed k o (omega (arith, lt, c.loop-order-test.false)) (subst (IsRemainingWay basis c.args.asked) (sym e) way)),
    )
