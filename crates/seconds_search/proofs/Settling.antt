-- Where all edges are met points are placed, counted from the origin.
use Rattle.std.proofs.Common.{◌≡◌, ℕ, ◌+◌, ◌<◌, ◌≤◌, ℤ, pos, ◌-ℤ◌, List, length, inl, inr, sym, ap, subst, ◌∙◌, arith}
use Rattle.std.proofs.lemmas.Bool.{cases_lt}
use Rattle.std.proofs.lemmas.Int.{ints}
use Rattle.std.proofs.lemmas.List.{get_or_default, get_or_past}
use Rattle.std.proofs.lemmas.List.Elements.{All-contains}
use Rattle.seconds_core.specs.Constraints.{IsMet}
use Rattle.seconds_core.specs.Laws.{MeetsAll}
use Rattle.seconds_core.specs.Placed.{IsPlaced, second_at}
use Rattle.seconds_core.specs.Timed.{IsTimed, PlainTimed, origin}
use Rattle.seconds_core.proofs.Kept.{constraints_say_what_is_placed}
use Rattle.seconds_search.specs.declared.edges.Edge.{Edge}
use Rattle.seconds_search.specs.Edges.{AreConstraintEdges, IsEdge, edge_at}
use Rattle.seconds_search.specs.Relaxation.{AreMet}
use Rattle.seconds_search.proofs.Relaxing.{no_edge}

pub settled_is_placed : (timed : PlainTimed) (edges : List Edge) (seconds counted : List ℤ) → IsTimed timed → AreConstraintEdges timed edges → length seconds ≡ origin timed + 1 → AreMet edges seconds
    → length counted + 1 ≡ length seconds
    → ((p : ℕ) → p < length counted → second_at counted p ≡ second_at seconds p -ℤ second_at seconds (length counted))
    → IsPlaced timed counted
settled_is_placed timed edges seconds counted is are all met size same =
    let count : length counted ≡ origin timed = omega (arith, size, all) in
    let at : (p : ℕ) → p ≤ origin timed → second_at counted p ≡ second_at seconds p -ℤ second_at seconds (origin timed) = λ p le. elim (cases_lt p (origin timed)) [
      | inl lt ↦ same p (omega (arith, lt, count)) ∙ ap (λ n. second_at seconds p -ℤ second_at seconds n) count
      | inr ge ↦ let last : p ≡ origin timed = omega (arith, ge, le) in get_or_past counted p (pos 0) (omega (arith, ge, count)) ∙ subst (λ q. pos 0 ≡ second_at seconds q -ℤ second_at seconds (origin timed)) (sym last) (omega (arith, ints))
    ] in
    let meets : MeetsAll timed counted = λ line c named.
    let (k, lt, found) = are.whole line c named in
    let edge : Edge = record { line = line; constraint = c } in
    let here : edge_at edges k ≡ edge = get_or_default edges k no_edge edge lt ∙ found in
    let here_met : IsMet seconds c = subst (λ (e : Edge). IsMet seconds e.constraint) here (met k lt) in
    let within = (All-contains (IsEdge timed) edges edge are.named (k, lt, found)).1 in
    omega (arith, ints, here_met, at c.to within.to, at c.from within.from) in
    (constraints_say_what_is_placed timed counted is).1 (count, meets)
