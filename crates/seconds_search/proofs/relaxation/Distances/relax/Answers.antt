use Rattle.std.proofs.Common.{◌≡◌, ◌∙◌, ◌<◌, SFits, w64, ℕ, ℤ, pos, neg_ℤ, ◌+ℤ◌, ◌<ℤ◌, ◌≤ℤ◌, List, Option, Some, ap, length, refl, set, subst, sym, arith, rules}
use Rattle.std.proofs.lemmas.Int.{ints}
use Rattle.std.proofs.lemmas.List.{get_or_default, length-set}
use Rattle.seconds_core.specs.Placed.{second_at}
use Rattle.seconds_search.specs.Relaxation.{IsRelaxed, PlainDistances, constraint_at, lowest, total}
use Rattle.seconds_search.proofs.Relaxing.{edge_inside, stays_relaxed, total_less}
use Rattle.seconds_search.proofs.relaxation.Distances.relax.Goals as goal

pub returns : goal.returns
returns c =
    let edges = c.args.edges.now in
    let d = c.args.self.now in
    let edge = constraint_at edges c.args.number in
    let s : ℤ = second_at d.seconds edge.from +ℤ edge.weight in
    let inside = edge_inside (length d.seconds) edges c.args.number c.requires.relaxed.inside c.requires.number in
    let items = c.self.inside.seconds.items in
    let same : items ≡ d.seconds = ap (λ (v : PlainDistances). v.seconds) c.self.view_is in
    let within : edge.to < length items = omega (arith, ap length same, inside.to) in
    let here : c.index.result.now ≡ second_at d.seconds edge.to = c.index.ensures ∙ get_or_default items edge.to c.index.result.now (pos 0) within ∙ ap (λ (xs : List ℤ). second_at xs edge.to) same in
    let led : c.led_to-second.result ≡ s = search rules in
    let fits : SFits w64 c.led_to-second.result = search rules in
    let fits_here : SFits w64 c.index.result.now = search rules in
    let later : s <ℤ second_at d.seconds edge.to = omega (arith, ints, c.if-index-second.false, here, led, fits, fits_here) in
    let low : neg_ℤ (pos lowest) ≤ℤ s = omega (arith, ints, c.if-second-lt-LOWEST.false, led, fits) in
    let seconds : c.lower.new.self.seconds ≡ set d.seconds edge.to s = search rules in
    let predecessors : c.lower.new.self.predecessors ≡ set d.predecessors edge.to (Some c.args.number) = search rules in
    record {
      relaxed = subst (λ (x : List ℤ). IsRelaxed edges (record { seconds = x; predecessors = c.lower.new.self.predecessors })) (sym seconds)
          (subst (λ (y : List (Option ℕ)). IsRelaxed edges (record { seconds = set d.seconds edge.to s; predecessors = y })) (sym predecessors)
          (stays_relaxed edges d c.requires.relaxed c.args.number c.requires.number s refl later low));
      size = ap length seconds ∙ length-set d.seconds edge.to s;
      done = subst (λ (x : List ℤ). total x < total d.seconds) (sym seconds) (total_less d.seconds edge.to s inside.to low later);
    }
