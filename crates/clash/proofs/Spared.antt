-- The least ranks with which a walk's links but one hold.
use Rattle.std.proofs.Common.{◌≡◌, ◌≢◌, ◌↔◌, ◌==◌, ◌&&◌, ℕ, ◌+◌, ◌-◌, ◌*◌, ◌<◌, ◌≤◌, Bool, true, false, not, List, [], ◌∷◌, ◌++◌, length, length-append, replicate, take, slice_index, slice_index_or, sym, subst, ◌∙◌, arith, inl, inr}
use Rattle.std.specs.List.{Contains}
use Rattle.std.proofs.Math.ListN.{get_or-append}
use Rattle.std.proofs.Math.Seq.{get_or-append_seam}
use Rattle.std.proofs.lemmas.Bool.{cases_lt}
use Rattle.std.proofs.lemmas.Bool.Decides.{nat_tests}
use Rattle.std.proofs.lemmas.List.{get_or-take, get_or_default, get_or_past, length-take-le, take_more}
use Rattle.std.proofs.lemmas.List.Elements.{All-weaker}
use Rattle.net_core.specs.Atoms.{IsInRange}
use Rattle.net_core.specs.Clashes.{Others}
use Rattle.net_core.specs.Fits.{FitsWith}
use Rattle.net_core.specs.Least.{AreSpares, IsSpare}
use Rattle.net_core.specs.Limits.{max_points}
use Rattle.net_core.specs.Nets.{IsNet, PlainNet, points}
use Rattle.net_core.specs.Ranks.{timeline_of}
use Rattle.net_core.specs.Relations.{Timeline}
use Rattle.net_core.specs.Walks.{Kept}
use Rattle.net_core.specs.declared.atom.Atom.{Atom}
use Rattle.net_core.proofs.StepLaws.{fits_fewer}
use Rattle.order_closure.specs.Tables.{AreInRange}
use Rattle.clash.specs.Minimal.{IsMarkedWalk, IsSpared}
use Rattle.net_orders.specs.Milestones.{AreWithMilestones}
use Rattle.net_orders.specs.Orders.{AreOrdersBelow, FitsBut}
use Rattle.net_orders.specs.Raising.{AreLow, AreRanksWithin, RanksRise}
use Rattle.net_orders.specs.declared.orders.Order.{Order}
use Rattle.net_orders.proofs.SamePoints.{fits_same}
use Rattle.net_orders.proofs.Zeros.{zeros_size, zeros_under, zeros_within}
use Rattle.clash.specs.declared.closed_walk.ClosedWalk.{ClosedWalk}
use Rattle.clash.proofs.Complete.{small_timeline}
use Rattle.clash.proofs.WalkBut.{fits_kept, fits_placed}

-- whether a link is one of those that are marked, and another one
is_other : List Bool → ℕ → ℕ → Bool
is_other marks omitted k = slice_index_or marks k false && not (k == omitted)

others : (marks : List Bool) (omitted k : ℕ) → (is_other marks omitted k ≡ true) ↔ Others (Kept marks) omitted k
unfolding is_other
others marks omitted k = both (slice_index_or marks k false)
  where
    both : (mark : Bool) → ((mark && not (k == omitted)) ≡ true) ↔ ((mark ≡ true) × (k ≢ omitted))
    both true = grind (arith, nat_tests)
    both false = (λ e. absurd cc, λ e. absurd (let f = e.0 in cc))

-- zeros can be raised by the orders of a closed walk and by those that are fixed
pub zeros_ready : (net : PlainNet) (closed : ClosedWalk) (fixed : List Atom) (orders : List Order) (zeros : List ℕ) → IsNet net → IsMarkedWalk net closed → AreWithMilestones net fixed
    → orders ≡ closed.orders → zeros ≡ replicate (2 * points net) 0
    → AreOrdersBelow (length zeros) orders × AreInRange (length zeros) fixed × (length zeros ≤ 2 * max_points) × AreRanksWithin zeros
zeros_ready net closed fixed orders zeros net_is is are same e =
    let size = sym (zeros_size (2 * points net) zeros e) in
    let few = net_is.few_intervals in
    let below : AreOrdersBelow (2 * points net) closed.orders = All-weaker (λ (o : Order). IsInRange (points net) o.atom) (λ (o : Order). IsInRange (2 * points net) o.atom)
    (λ o in_range. (omega (arith, in_range.0), omega (arith, in_range.1))) closed.orders is.orders.in_range in (
      subst (λ (n : ℕ). AreOrdersBelow n orders) size (subst (AreOrdersBelow (2 * points net)) (sym same) below),
      subst (λ (n : ℕ). AreInRange n fixed) size are.in_range,
      omega (arith, size),
      zeros_within (2 * points net) zeros e,
    )

module _ (net : PlainNet) (closed : ClosedWalk) (fixed : List Atom) (omitted : ℕ) (net_is : IsNet net) (is : IsMarkedWalk net closed) (are : AreWithMilestones net fixed) (zeros ranks : List ℕ)
    (e : zeros ≡ replicate (2 * points net) 0) (rises : RanksRise (FitsBut closed.orders fixed omitted) zeros ranks) where
  abbrev Rest : ℕ → Type 0
  Rest = Others (Kept closed.over.items) omitted

  -- there are ranks of all points and their milestones
  size : length ranks ≡ 2 * points net
  size = rises.size ∙ zeros_size (2 * points net) zeros e

  -- ranks that rose from zeros are not past a timeline that fits with the other links
  under : (t : Timeline) → FitsWith net Rest t → (p : ℕ) → p < points net → slice_index ranks p ≤ t p
  under t fits p lt =
      let at = fits_placed net closed fixed omitted is are t fits in
      let least = rises.under at.0 at.2 (zeros_under (2 * points net) zeros e at.0) p (omega (arith, size)) in
      omega (arith, at.1.same p lt)

  -- nor past it where there are milestones
  milestones_under : (t : Timeline) → FitsWith net Rest t → (q : ℕ) → q < points net → slice_index ranks (points net + q) ≤ t q
  milestones_under t fits q lt =
      let at = fits_placed net closed fixed omitted is are t fits in
      let least = rises.under at.0 at.2 (zeros_under (2 * points net) zeros e at.0) (points net + q) (omega (arith, size)) in
      omega (arith, at.1.early q lt)

  -- a timeline that fits with the other links, and has small ranks
  small : IsSpared net (Kept closed.over.items) omitted → (t : Timeline) × FitsWith net Rest t × ((p : ℕ) → p < points net → t p < points net)
  small spared =
      let test = is_other closed.over.items omitted in
      let one = small_timeline net test net_is spared.0
      (fits_fewer net Rest (λ k. test k ≡ true) spared.0 (λ k below. (others closed.over.items omitted k).0) spared.1) in
      (one.0, fits_fewer net (λ k. test k ≡ true) Rest one.0 (λ k below. (others closed.over.items omitted k).1) one.1, one.2)

  -- ranks that rose from zeros are low
  pub low_from_zeros : IsSpared net (Kept closed.over.items) omitted → AreLow ranks
  low_from_zeros spared p =
      let few = net_is.few_intervals in
      let one = small spared in
      elim (cases_lt p (points net)) [
        | inl lt ↦ omega (arith, under one.0 one.1 p lt, one.2 p lt)
        | inr more ↦ elim (cases_lt p (2 * points net)) [
          | inl lt ↦
              let q = p - points net in
              let within : q < points net = omega arith in
              let here : points net + q ≡ p = omega arith in
              let least = subst (λ (k : ℕ). slice_index ranks k ≤ one.0 q) here (milestones_under one.0 one.1 q within) in
              omega (arith, one.2 q within)
          | inr past ↦ omega (arith, get_or_past ranks p 0 (omega (arith, size)))
        ]
      ]

  -- zeros that rise until they fit are the least ranks, and so a timeline fits
  pub spare_from_zeros : FitsBut closed.orders fixed omitted (timeline_of ranks) → IsSpare net (Kept closed.over.items) omitted (take (points net) ranks)
  spare_from_zeros fits =
      let first = take (points net) ranks in
      let same = λ (p : ℕ) (lt : p < points net). get_or-take (points net) ranks p 0 lt in
      let there = fits_kept net closed fixed omitted is are (timeline_of ranks) fits in
      let one = small (timeline_of ranks, there) in
      record {
        size = length-take-le (points net) ranks (omega (arith, size));
        least = record {
          holds = fits_same net (timeline_of ranks) (timeline_of first) same Rest net_is there;
          least = λ u holds p lt. omega (arith, same p lt, under u holds p lt);
        };
        small = λ p lt. omega (arith, same p lt, under one.0 one.1 p lt, one.2 p lt);
      }

-- where there is a spare for each of some links, each of them is needed
pub spares_needed : (net : PlainNet) (Chosen : ℕ → Type 0) (cites : List ℕ) (spares : List (List ℕ)) → AreSpares net Chosen cites spares → (k : ℕ) → Contains cites k → IsSpared net Chosen k
spares_needed net Chosen cites spares are k has =
    let at : slice_index cites has.0 ≡ k = get_or_default cites has.0 0 k has.1 ∙ has.2 in
    let spare = are.1 has.0 has.1 in
    subst (IsSpared net Chosen) at (timeline_of (slice_index_or spares has.0 []), spare.least.holds)

-- one spare more
push_spare : (net : PlainNet) (Chosen : ℕ → Type 0) (cites : List ℕ) (spares : List (List ℕ)) (cite : ℕ) (spare : List ℕ) → AreSpares net Chosen cites spares → IsSpare net Chosen cite spare
    → AreSpares net Chosen (cites ++ cite ∷ []) (spares ++ spare ∷ [])
push_spare net Chosen cites spares cite spare are one =
    let size = are.0 in
    let Is = IsSpare net Chosen in (
      omega (arith, length-append spares (spare ∷ []), length-append cites (cite ∷ [])),
      λ i lt. elim (cases_lt i (length cites)) [
        | inl less ↦
            let first : slice_index (cites ++ cite ∷ []) i ≡ slice_index cites i = get_or-append cites (cite ∷ []) 0 i less in
            let second : slice_index_or (spares ++ spare ∷ []) i [] ≡ slice_index_or spares i [] = get_or-append spares (spare ∷ []) [] i (omega arith) in
            rw (first, second) (are.1 i less)
        | inr more ↦
            let last : i ≡ length cites = omega (arith, length-append cites (cite ∷ [])) in
            let first : slice_index (cites ++ cite ∷ []) i ≡ cite = rw last (get_or-append_seam cites cite [] 0) in
            let second : slice_index_or (spares ++ spare ∷ []) i [] ≡ spare = rw (last ∙ sym size) (get_or-append_seam spares spare [] []) in
            rw (first, second) one
      ],
    )

-- one cite more
pub spares_more : (net : PlainNet) (Chosen : ℕ → Type 0) (cites : List ℕ) (k : ℕ) (spares now : List (List ℕ)) (spare : List ℕ) → k < length cites
    → AreSpares net Chosen (take k cites) spares → IsSpare net Chosen (slice_index cites k) spare → now ≡ spares ++ spare ∷ [] → AreSpares net Chosen (take (k + 1) cites) now
spares_more net Chosen cites k spares now spare within are one e =
    rw (take_more cites k 0 within, e) (push_spare net Chosen (take k cites) spares (slice_index cites k) spare are one)
