-- In whatever two intervals a base relation holds, their points lie as in its example.
use Rattle.std.proofs.Common.{◌≡◌, ◌↔◌, ℕ, ◌<◌, ◌≤◌, inl, inr, refl, arith}
use Rattle.std.specs.List.{AllByRecursion, Contains}
use Rattle.std.proofs.lemmas.Bool.{cases_lt}
use Rattle.std.proofs.lemmas.List.Elements.{All-contains, All-from_recursion}
use Rattle.net_core.specs.Atoms.{IsTrueOf, point_in}
use Rattle.net_core.specs.BaseRelations.{IsInterval, base_rels}
use Rattle.net_core.specs.Relations.{Holds}
use Rattle.net_core.specs.declared.atom.End.{End}
use Rattle.net_core.specs.declared.atom.End.TheVariants.{Start, Finish}
use Rattle.net_core.specs.declared.atom.PairOrder.{PairOrder}
use Rattle.net_core.specs.declared.atom.PairOrder.TheVariants.{ABefore, ANoLater, BBefore, BNoLater}
use Rattle.net_core.specs.declared.net.Ends.{Ends}
use Rattle.net_core.specs.declared.rels.Rel.{Rel}
use Rattle.net_core.specs.declared.rels.Rel.TheVariants as rel
use Rattle.tml_possible.specs.Examples.{example}

-- two numbers stand to each other as two others do
abbrev Alike : ℕ → ℕ → ℕ → ℕ → Type 0
Alike m n u v = ((m < n) ↔ (u < v)) × ((n < m) ↔ (v < u))

less : (m n u v : ℕ) → m < n → u < v → Alike m n u v
less m n u v h k = ((λ _. k, λ _. h), (λ l. absurd (omega (arith, h, l)), λ l. absurd (omega (arith, k, l))))

same : (m n u v : ℕ) → m ≡ n → u ≡ v → Alike m n u v
same m n u v h k = ((λ l. absurd (omega (arith, h, l)), λ l. absurd (omega (arith, k, l))), (λ l. absurd (omega (arith, h, l)), λ l. absurd (omega (arith, k, l))))

more : (m n u v : ℕ) → n < m → v < u → Alike m n u v
more m n u v h k = ((λ l. absurd (omega (arith, h, l)), λ l. absurd (omega (arith, k, l))), (λ _. k, λ _. h))

-- the points of two intervals lie as those of two others
pub record LieAlike (x y u v : Ends) : Type 0 where
  pub starts : Alike x.start y.start u.start v.start
  pub back : Alike x.start y.finish u.start v.finish
  pub across : Alike x.finish y.start u.finish v.start
  pub finishes : Alike x.finish y.finish u.finish v.finish

abbrev LieAsExample : Ends → Ends → Rel → Type 0
LieAsExample x y r = Holds x r y → LieAlike x y (example r).0 (example r).1

module _ (x y : Ends) (ix : IsInterval x) (iy : IsInterval y) where
  lies_before : LieAsExample x y rel.Before
  lies_before h = record { starts = less _ _ _ _ (omega (arith, h, ix, iy)) (omega arith); back = less _ _ _ _ (omega (arith, h, ix, iy)) (omega arith); across = less _ _ _ _ (omega (arith, h)) (omega arith); finishes = less _ _ _ _ (omega (arith, h, iy)) (omega arith) }

  lies_after : LieAsExample x y rel.After
  lies_after h = record { starts = more _ _ _ _ (omega (arith, h, ix, iy)) (omega arith); back = more _ _ _ _ (omega (arith, h)) (omega arith); across = more _ _ _ _ (omega (arith, h, ix, iy)) (omega arith); finishes = more _ _ _ _ (omega (arith, h, ix)) (omega arith) }

  lies_including : LieAsExample x y rel.Includes
  lies_including h = record { starts = less _ _ _ _ h.0 (omega arith); back = less _ _ _ _ (omega (arith, h, iy)) (omega arith); across = more _ _ _ _ (omega (arith, h, iy)) (omega arith); finishes = more _ _ _ _ h.1 (omega arith) }

  lies_included : LieAsExample x y rel.IsIncluded
  lies_included h = record { starts = more _ _ _ _ h.0 (omega arith); back = less _ _ _ _ (omega (arith, h, ix)) (omega arith); across = more _ _ _ _ (omega (arith, h, ix)) (omega arith); finishes = less _ _ _ _ h.1 (omega arith) }

  lies_equal : LieAsExample x y rel.Simultaneous
  lies_equal h = record { starts = same _ _ _ _ h.0 refl; back = less _ _ _ _ (omega (arith, h, ix)) (omega arith); across = more _ _ _ _ (omega (arith, h, ix)) (omega arith); finishes = same _ _ _ _ h.1 refl }

  lies_meeting : LieAsExample x y rel.Ibefore
  lies_meeting h = record { starts = less _ _ _ _ (omega (arith, h, ix)) (omega arith); back = less _ _ _ _ (omega (arith, h, ix, iy)) (omega arith); across = same _ _ _ _ h refl; finishes = less _ _ _ _ (omega (arith, h, iy)) (omega arith) }

  lies_met : LieAsExample x y rel.Iafter
  lies_met h = record { starts = more _ _ _ _ (omega (arith, h, iy)) (omega arith); back = same _ _ _ _ (omega (arith, h)) refl; across = more _ _ _ _ (omega (arith, h, ix, iy)) (omega arith); finishes = more _ _ _ _ (omega (arith, h, ix)) (omega arith) }

  lies_starting : LieAsExample x y rel.Begins
  lies_starting h = record { starts = same _ _ _ _ h.0 refl; back = less _ _ _ _ (omega (arith, h, ix)) (omega arith); across = more _ _ _ _ (omega (arith, h, ix)) (omega arith); finishes = less _ _ _ _ h.1 (omega arith) }

  lies_started : LieAsExample x y rel.BegunBy
  lies_started h = record { starts = same _ _ _ _ (omega (arith, h)) refl; back = less _ _ _ _ (omega (arith, h, iy)) (omega arith); across = more _ _ _ _ (omega (arith, h, ix)) (omega arith); finishes = more _ _ _ _ h.1 (omega arith) }

  lies_finishing : LieAsExample x y rel.Ends
  lies_finishing h = record { starts = more _ _ _ _ h.1 (omega arith); back = less _ _ _ _ (omega (arith, h, ix)) (omega arith); across = more _ _ _ _ (omega (arith, h, iy)) (omega arith); finishes = same _ _ _ _ h.0 refl }

  lies_finished : LieAsExample x y rel.EndedBy
  lies_finished h = record { starts = less _ _ _ _ h.1 (omega arith); back = less _ _ _ _ (omega (arith, h, ix)) (omega arith); across = more _ _ _ _ (omega (arith, h, iy)) (omega arith); finishes = same _ _ _ _ (omega (arith, h)) refl }

  lies_overlapping : LieAsExample x y rel.Overlaps
  lies_overlapping h = record { starts = less _ _ _ _ h.0 (omega arith); back = less _ _ _ _ (omega (arith, h, iy)) (omega arith); across = more _ _ _ _ h.1 (omega arith); finishes = less _ _ _ _ h.2 (omega arith) }

  lies_overlapped : LieAsExample x y rel.OverlappedBy
  lies_overlapped h = record { starts = more _ _ _ _ h.0 (omega arith); back = less _ _ _ _ h.1 (omega arith); across = more _ _ _ _ (omega (arith, h, ix)) (omega arith); finishes = more _ _ _ _ h.2 (omega arith) }

  each_lies : AllByRecursion (LieAsExample x y) base_rels
  each_lies = (lies_before, (lies_after, (lies_including, (lies_included, (lies_equal, (lies_meeting, (lies_met, (lies_starting, (lies_started, (lies_finishing, (lies_finished, (lies_overlapping, (lies_overlapped, tt)))))))))))))

  pub lie_as_example : (r : Rel) → Contains base_rels r → Holds x r y → LieAlike x y (example r).0 (example r).1
  lie_as_example r is = All-contains (LieAsExample x y) base_rels r (All-from_recursion (LieAsExample x y) base_rels each_lies) is

-- of intervals that lie alike the same orders are true
module _ (x y u v : Ends) (alike : LieAlike x y u v) where
  at : (p q : End) → Alike (point_in x p) (point_in y q) (point_in u p) (point_in v q)
  at Start Start = alike.starts
  at Start Finish = alike.back
  at Finish Start = alike.across
  at Finish Finish = alike.finishes

  not_later : (m n p q : ℕ) → ((n < m) ↔ (q < p)) → m ≤ n → p ≤ q
  not_later m n p q same h = elim (cases_lt q p) [
    | inl less ↦ absurd (omega (arith, h, same.1 less))
    | inr le ↦ le
  ]

  pub order_alike : (order : PairOrder) → IsTrueOf x y order → IsTrueOf u v order
  order_alike (ABefore p q) h = (at p q).0.0 h
  order_alike (ANoLater p q) h = not_later _ _ _ _ (at p q).1 h
  order_alike (BBefore p q) h = (at q p).1.0 h
  order_alike (BNoLater p q) h = not_later _ _ _ _ (at q p).0 h

-- an example is of intervals
pub examples_are_intervals : (r : Rel) → IsInterval (example r).0 × IsInterval (example r).1
examples_are_intervals rel.Before = (omega arith, omega arith)
examples_are_intervals rel.After = (omega arith, omega arith)
examples_are_intervals rel.Includes = (omega arith, omega arith)
examples_are_intervals rel.IsIncluded = (omega arith, omega arith)
examples_are_intervals rel.During = (omega arith, omega arith)
examples_are_intervals rel.DuringInv = (omega arith, omega arith)
examples_are_intervals rel.Simultaneous = (omega arith, omega arith)
examples_are_intervals rel.Identity = (omega arith, omega arith)
examples_are_intervals rel.Ibefore = (omega arith, omega arith)
examples_are_intervals rel.Iafter = (omega arith, omega arith)
examples_are_intervals rel.Begins = (omega arith, omega arith)
examples_are_intervals rel.BegunBy = (omega arith, omega arith)
examples_are_intervals rel.Ends = (omega arith, omega arith)
examples_are_intervals rel.EndedBy = (omega arith, omega arith)
examples_are_intervals rel.Overlaps = (omega arith, omega arith)
examples_are_intervals rel.OverlappedBy = (omega arith, omega arith)

-- and has its relation
pub examples_hold : (r : Rel) → Contains base_rels r → Holds (example r).0 r (example r).1
examples_hold r is = All-contains HoldsOfExample base_rels r (All-from_recursion HoldsOfExample base_rels each) is
  where
    HoldsOfExample : Rel → Type 0
    HoldsOfExample r = Holds (example r).0 r (example r).1

    each : AllByRecursion HoldsOfExample base_rels
    each = (omega arith, (omega arith, ((omega arith, omega arith), ((omega arith, omega arith), ((refl, refl), (refl, (refl, ((refl, omega arith), ((refl, omega arith), ((refl, omega arith), ((refl, omega arith), ((omega arith, omega arith, omega arith), ((omega arith, omega arith, omega arith), tt)))))))))))))
