-- Seconds are a placing exactly where they meet all constraints.
use Rattle.std.proofs.Common.{◌≡◌, ◌↔◌, ◌+◌, ◌*◌, ℤ, pos, neg_ℤ, ◌+ℤ◌, ◌≤ℤ◌, Bool, true, false, cond, List, length, get_or, Some, option_map, refl, ap, subst, arith}
use Rattle.std.specs.List.{slice_get}
use Rattle.std.proofs.lemmas.Bool.{lt-ltb, ltb-true}
use Rattle.std.proofs.lemmas.Int.{ints}
use Rattle.std.proofs.lemmas.List.{get_or_past}
use Rattle.std.proofs.lemmas.List.Elements.{All-from_recursion, All-from_get_or, recursion_from_All}
use Rattle.std.proofs.lemmas.Option.{get_or_from_slice_get, option_and_then_some, slice_get-get_or, slice_get_within}
use Rattle.net_core.specs.Atoms.{atoms_of, before}
use Rattle.net_core.specs.Nets.{intervals, link_at, points}
use Rattle.net_core.specs.Steps.{atom_of}
use Rattle.net_core.specs.declared.net.NetLink.{NetLink}
use Rattle.net_core.specs.declared.rels.Rel.TheVariants as rel
use Rattle.net_core.specs.declared.step.Step.TheVariants.{Link}
use Rattle.net_core.proofs.StepLaws.{one_of_all}
use Rattle.seconds_core.specs.declared.line.Line.TheVariants.{Span, Via, Lower, Upper, Least, Most}
use Rattle.seconds_core.specs.Constraints.{IsMet, at_most, constraint_by}
use Rattle.seconds_core.specs.Laws.{ConstraintsSayWhatIsPlaced, MeetsAll}
use Rattle.seconds_core.specs.Orders.{AreSecondsInOrder, KeepsOrder}
use Rattle.seconds_core.specs.Placed.{IsPlaced, KeepsLinkInSeconds, lasts, second_at}
use Rattle.seconds_core.specs.Timed.{IsTimed, PlainTimed, limits_at, lower_second, origin, upper_second}
use Rattle.seconds_core.proofs.Named.{each, made, tested, there, within}
use Rattle.seconds_core.proofs.Relations.{relation_by_orders}
use Rattle.seconds_core.proofs.InRange.{limits_past, lower_past, upper_past}

-- an order of two seconds is a constraint
order_met : (strict : Bool) (m n : ℤ) → AreSecondsInOrder strict m n ↔ (m ≤ℤ (n +ℤ cond strict (neg_ℤ (pos 1)) (pos 0)))
order_met true m n = (λ h. omega (arith, ints, h), λ h. omega (arith, ints, h))
order_met false m n = (λ h. omega (arith, ints, h), λ h. omega (arith, ints, h))

module _ (timed : PlainTimed) (seconds : List ℤ) where
  -- second 0 is that of the origin, past all points
  zero_at_origin : length seconds ≡ points timed.net → second_at seconds (origin timed) ≡ pos 0
  zero_at_origin size = get_or_past seconds (origin timed) (pos 0) (omega (arith, size))

  met : IsTimed timed → IsPlaced timed seconds → MeetsAll timed seconds
  met is placed (Span i) c e =
      let both = tested _ _ c e in
      let lt = ltb-true i (intervals timed.net) both.0 in
      subst (IsMet seconds) both.1 (omega (arith, ints, placed.order i lt))
  met is placed (Via k j) c e =
      let (a, at, same) = made constraint_by (atom_of timed.net (Link k j)) c e in
      option_and_then_some (λ (l : NetLink). slice_get (atoms_of l.a l.rel l.b) j) (slice_get timed.net.links k) a at (λ l here there.
      let link = get_or_from_slice_get timed.net.links k l (record { a = 0; rel = rel.Before; b = 0 }) here in
      let keeps = (relation_by_orders seconds l).0 (subst (KeepsLinkInSeconds seconds) link (placed.links k (slice_get_within timed.net.links k l here))) in
      let order = one_of_all (KeepsOrder seconds) (atoms_of l.a l.rel l.b) j a (All-from_recursion (KeepsOrder seconds) (atoms_of l.a l.rel l.b) keeps) there in
      subst (IsMet seconds) same ((order_met a.strict (second_at seconds a.from) (second_at seconds a.to)).0 order))
  met is placed (Lower p) c e =
      let (n, at, same) = made (λ n. at_most p (origin timed) (neg_ℤ n)) (lower_second timed p) c e in
      let zero = zero_at_origin placed.size in
      let lt = within (lower_second timed p) n p (origin timed) at (lower_past timed p) in
      let low = there (λ m. m ≤ℤ second_at seconds p) (lower_second timed p) n (placed.bounds p lt).0 at in
      subst (IsMet seconds) same (omega (arith, ints, zero, low))
  met is placed (Upper p) c e =
      let (n, at, same) = made (λ n. at_most (origin timed) p n) (upper_second timed p) c e in
      let zero = zero_at_origin placed.size in
      let lt = within (upper_second timed p) n p (origin timed) at (upper_past timed p) in
      let high = there (λ m. second_at seconds p ≤ℤ m) (upper_second timed p) n (placed.bounds p lt).1 at in
      subst (IsMet seconds) same (omega (arith, ints, zero, high))
  met is placed (Least i) c e =
      let (n, at, same) = made (λ n. at_most (2 * i + 1) (2 * i) (neg_ℤ n)) (limits_at timed i).least c e in
      let lt = within (limits_at timed i).least n i (intervals timed.net) at (λ le. ap (λ l. l.least) (limits_past timed i is le)) in
      let low = there (λ m. m ≤ℤ lasts seconds i) (limits_at timed i).least n (placed.limits i lt).0 at in
      subst (IsMet seconds) same (omega (arith, ints, low))
  met is placed (Most i) c e =
      let (n, at, same) = made (λ n. at_most (2 * i) (2 * i + 1) n) (limits_at timed i).most c e in
      let lt = within (limits_at timed i).most n i (intervals timed.net) at (λ le. ap (λ l. l.most) (limits_past timed i is le)) in
      let high = there (λ m. lasts seconds i ≤ℤ m) (limits_at timed i).most n (placed.limits i lt).1 at in
      subst (IsMet seconds) same (omega (arith, ints, high))

  placed : length seconds ≡ points timed.net → MeetsAll timed seconds → IsPlaced timed seconds
  placed size meets = let zero = zero_at_origin size in record {
    size = size;
    order = λ i lt. omega (arith, ints, meets (Span i) (at_most (2 * i + 1) (2 * i) (neg_ℤ (pos 1))) (let less = lt-ltb i (intervals timed.net) lt in rw less refl));
    links = λ k lt.
        let l = link_at timed.net k in
        let at : slice_get timed.net.links k ≡ Some l = slice_get-get_or timed.net.links k (record { a = 0; rel = rel.Before; b = 0 }) lt in
        (relation_by_orders seconds l).1 (recursion_from_All (KeepsOrder seconds) (atoms_of l.a l.rel l.b) (All-from_get_or (KeepsOrder seconds) (atoms_of l.a l.rel l.b) (before 0 0) (λ j lj.
        let a = get_or (atoms_of l.a l.rel l.b) j (before 0 0) in
        (order_met a.strict (second_at seconds a.from) (second_at seconds a.to)).1 (meets (Via k j) (constraint_by a) (rw at (rw (slice_get-get_or (atoms_of l.a l.rel l.b) j (before 0 0) lj) refl))))));
    bounds = λ p lt. (
      each (λ m. m ≤ℤ second_at seconds p) (lower_second timed p) (λ n at. omega (arith, ints, zero, meets (Lower p) (at_most p (origin timed) (neg_ℤ n)) (ap (option_map (λ m. at_most p (origin timed) (neg_ℤ m))) at))),
      each (λ m. second_at seconds p ≤ℤ m) (upper_second timed p) (λ n at. omega (arith, ints, zero, meets (Upper p) (at_most (origin timed) p n) (ap (option_map (λ m. at_most (origin timed) p m)) at))),
    );
    limits = λ i lt. (
      each (λ m. m ≤ℤ lasts seconds i) (limits_at timed i).least (λ n at. omega (arith, ints, meets (Least i) (at_most (2 * i + 1) (2 * i) (neg_ℤ n)) (ap (option_map (λ m. at_most (2 * i + 1) (2 * i) (neg_ℤ m))) at))),
      each (λ m. lasts seconds i ≤ℤ m) (limits_at timed i).most (λ n at. omega (arith, ints, meets (Most i) (at_most (2 * i) (2 * i + 1) n) (ap (option_map (λ m. at_most (2 * i) (2 * i + 1) m)) at))),
    );
  }

pub constraints_say_what_is_placed : ConstraintsSayWhatIsPlaced
constraints_say_what_is_placed timed seconds is = (λ p. (p.size, met timed seconds is p), λ h. placed timed seconds h.0 h.1)
