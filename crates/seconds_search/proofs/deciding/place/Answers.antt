use Rattle.std.proofs.Common.{◌≡◌, ◌∙◌, ℕ, pos, ◌+◌, ◌≤◌, List, ap, length, subst, sym, arith}
use Rattle.std.specs.List.{All}
use Rattle.std.proofs.lemmas.List.{length-replicate}
use Rattle.seconds_core.proofs.Sums.{negative_is_unplaced}
use Rattle.seconds_core.specs.Placed.{IsPlaced}
use Rattle.seconds_core.specs.Timed.{origin}
use Rattle.seconds_search.specs.declared.edges.Edge.{Edge}
use Rattle.seconds_search.specs.Edges.{AreInside, IsEdge}
use Rattle.seconds_search.specs.Relaxation.{AreMet, IsRelaxed, PlainDistances, max_rounds}
use Rattle.seconds_search.specs.Rounds.{AreRounds}
use Rattle.seconds_search.proofs.EdgeLaws.{edges_inside}
use Rattle.seconds_search.proofs.Relaxing.{relaxed_at_zero}
use Rattle.seconds_search.proofs.Settling.{settled_is_placed}
use Rattle.seconds_search.proofs.deciding.place.Goals as goal

pub loop-distances-init : goal.loop-distances-init
loop-distances-init c =
    let edges = c.in_ok-edges.edges.items in
    let n = c.origin-points.result + 1 in
    let net = c.origin-points.ensures.timed.net in
    let points = c.origin-points.ensures.origin in
    let few : n ≤ max_rounds = omega (arith, points, net.few_intervals) in
    let inside : AreInside n edges = subst (λ (m : ℕ). AreInside (m + 1) edges) (sym points) (edges_inside c.args.timed.now edges c.in_ok-edges.ensures.edges) in
    let size : length c.in_ok-distances.distances.seconds ≡ n = ap (λ (d : PlainDistances). length d.seconds) c.in_ok-distances.ensures ∙ length-replicate n (pos 0) in
    let rounds : AreRounds n edges c.in_ok-rounds.rounds = subst (λ (es : List Edge). AreRounds n es c.in_ok-rounds.rounds) c.deref.ensures.value c.in_ok-rounds.ensures in
    record {
      rounds = subst (λ (m : ℕ). AreRounds m edges c.in_ok-rounds.rounds) (sym size) rounds;
      relaxed = subst (IsRelaxed edges) (sym c.in_ok-distances.ensures) (relaxed_at_zero edges n few inside);
      size = size ∙ ap (λ (m : ℕ). m + 1) points;
    }

pub returns-in-Some-2 : goal.returns-in-Some-2
returns-in-Some-2 c =
    let timed = c.args.timed.now in
    let named : All (IsEdge timed) c.deref-in-Some.result.now = subst (All (IsEdge timed)) (sym c.deref-in-Some.ensures.value) c.in_ok-edges.ensures.edges.named in
    let are_negative = rw c.in-Some-2.is at c.in_ok-cycle.ensures.negative in
    let short = rw c.in-Some-2.is at c.in_ok-cycle.ensures.short in
    let negative = are_negative timed named in
    (λ has. negative_is_unplaced timed c.in-Some-2.cycle c.origin-points.ensures.timed negative has, (negative, omega (arith, short, c.in_ok-point.ensures.size, c.loop-distances.invariant.size)))

pub returns : goal.returns
returns c =
    let timed = c.args.timed.now in
    let edges = c.in_ok-edges.edges.items in
    let seconds = c.into_seconds.result.items in
    let all : length seconds ≡ origin timed + 1 = ap length c.into_seconds.ensures ∙ c.in_ok-point.ensures.size ∙ c.loop-distances.invariant.size in
    let now_met : AreMet c.deref-in-loop-distances.result.now c.next.new.distances.seconds = rw c.in_default.is at c.in_ok-point.ensures.all in
    let met : AreMet edges seconds = subst (AreMet edges) (sym c.into_seconds.ensures) (subst (λ (es : List Edge). AreMet es c.next.new.distances.seconds) c.deref-in-loop-distances.ensures.value now_met) in
    subst (IsPlaced timed) (sym c.from_vec.ensures) (settled_is_placed timed edges seconds c.from_origin.result.items c.origin-points.ensures.timed c.in_ok-edges.ensures.edges all met c.from_origin.ensures.size c.from_origin.ensures.counted)
