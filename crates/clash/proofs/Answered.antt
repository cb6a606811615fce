-- A net has least ranks that fit, or a clash that is proved; and where some timeline fits, each order of two points is proved or refuted.
use Rattle.std.proofs.Common.{◌≡◌, ◌↔◌, ℕ, zero, suc, ◌<◌, ◌≤◌, Bool, true, false, List, [], ◌∷◌, length, slice_index, slice_index_or, slice_set, replicate, refl, ap, subst, ◌∙◌, arith, inl, inr}
use Rattle.std.specs.List.{Contains}
use Rattle.std.proofs.lemmas.Bool.{cases_lt}
use Rattle.std.proofs.lemmas.List.{get_or-replicate, length-replicate, length-set}
use Rattle.net_core.specs.Atoms.{Satisfies}
use Rattle.net_core.specs.Clashes.{Clashes, Others}
use Rattle.net_core.specs.Fits.{EveryLink, Fits, FitsWith}
use Rattle.net_core.specs.Nets.{IsNet, PlainNet, points}
use Rattle.net_core.specs.Walks.{IsClosedWalk, Kept}
use Rattle.net_core.proofs.StepLaws.{fits_fewer}
use Rattle.net_core.proofs.WalkLaws.{joined_more, over_chosen, closed_walk_clashes}
use Rattle.net_core.specs.Least.{AreSpares, IsSpare}
use Rattle.net_core.specs.Relations.{Timeline}
use Rattle.order_closure.specs.Tables.{AreClosed, AreCellsKept}
use Rattle.order_closure.specs.declared.cell.Cell.{Cell}
use Rattle.order_closure.proofs.LeastRanks.{same_ranks}
use Rattle.clash.specs.Minimal.{IsAnswered, IsProvedClash, IsSpared}
use Rattle.clash.specs.Walks.{OrdersAreAnswered}
use Rattle.clash.specs.declared.minimal.Clash.{Clash}
use Rattle.clash.proofs.Complete.{closed_cells, fits_or_closed_walk, least_or_closed_walk, walk_or_counter}
use Rattle.clash.proofs.MarkedLinks.{every_marked, kept_within}
use Rattle.clash.proofs.Proved.{proved_links}
use Rattle.clash.proofs.ClosedWalks.{goes_over, others_set, set_others, spared_fewer}
use Rattle.clash.proofs.ShortWalks.{short_walk}

-- marks of all links
abbrev all_kept : PlainNet → List Bool
all_kept net = replicate (length net.links) true

-- what holds of all links holds of the marked ones, and the other way round
all_or_every : (net : PlainNet) (k : ℕ) → k < length net.links → Kept (all_kept net) k
all_or_every net k below = get_or-replicate (length net.links) k true false below

module _ (net : PlainNet) (is : IsNet net) where
  -- ---- links that are needed

  -- Marks of links that clash, of which those from a number on are needed.
  record AreThinned (k : ℕ) (keep : List Bool) : Type 0 where
    size : length keep ≡ length net.links
    clashes : Clashes net (Kept keep)
    needed : (j : ℕ) → k ≤ j → Kept keep j → IsSpared net (Kept keep) j

  -- a link is needed, or it is left out
  thinner : (k : ℕ) (keep : List Bool) → AreThinned (suc k) keep → (now : List Bool) × AreThinned k now
  thinner k keep has =
      let without = slice_set keep k false in
      elim (fits_or_closed_walk net (λ j. slice_index_or without j false) is) [
        | inl fits ↦ (
          keep,
          record {
            size = has.size;
            clashes = has.clashes;
            needed = λ j le kept. elim (cases_lt k j) [
              | inl more ↦ has.needed j more kept
              | inr last ↦
                  let same : k ≡ j = omega arith in
                  subst (IsSpared net (Kept keep)) same (fits.0, fits_fewer net (Kept without) (Others (Kept keep) k) fits.0 (λ i below other. others_set keep k i other) fits.1)
            ];
          },
        )
        | inr closed ↦ (
          without,
          record {
            size = length-set keep k false ∙ has.size;
            clashes = closed_walk_clashes net (Kept without) closed.0 closed.1;
            needed = λ j le kept.
                let other = set_others keep k j kept in
                spared_fewer net (Kept keep) (Kept without) j (λ i also. (set_others keep k i also).0) (has.needed j (after j le other.1) other.0);
          },
        )
      ]
    where
      after : (j : ℕ) → k ≤ j → ¬ (j ≡ k) → suc k ≤ j
      after j le other = elim (cases_lt k j) [ inl less ↦ less | inr last ↦ absurd (other (omega arith)) ]

  thinned : (k : ℕ) (keep : List Bool) → AreThinned k keep → (now : List Bool) × AreThinned 0 now
  thinned zero keep has = (keep, has)
  thinned (suc k) keep has = let less = thinner k keep has in thinned k less.0 less.1

  -- ---- the clash of needed links

  module _ (keep : List Bool) (has : AreThinned 0 keep) where
    -- least ranks with the others of the marked links
    spare_of : (k : ℕ) → Kept keep k → (ranks : List ℕ) × IsSpare net (Kept keep) k ranks
    spare_of k kept =
        let without = slice_set keep k false in
        let spared = has.needed k (omega arith) kept in
        elim (least_or_closed_walk net (λ j. slice_index_or without j false) is) [
          | inl found ↦ (
            found.0,
            same_ranks (points net) (FitsWith net (Kept without)) (FitsWith net (Others (Kept keep) k)) found.0 (λ t. (
              fits_fewer net (Kept without) (Others (Kept keep) k) t (λ j below other. others_set keep k j other),
              fits_fewer net (Others (Kept keep) k) (Kept without) t (λ j below also. set_others keep k j also),
            )) found.1,
          )
          | inr closed ↦ absurd (closed_walk_clashes net (Kept without) closed.0 closed.1 spared.0 (fits_fewer net (Others (Kept keep) k) (Kept without) spared.0 (λ j below also. set_others keep k j also) spared.1))
        ]

    -- one for each cite
    spares_of : (cites : List ℕ) → ((k : ℕ) → Contains cites k → Kept keep k) → (spares : List (List ℕ)) × AreSpares net (Kept keep) cites spares
    spares_of [] kept = ([], (refl, λ i below. absurd (omega arith)))
    spares_of (cite ∷ cites) kept =
        let first = spare_of cite (kept cite (0, omega arith, refl)) in
        let rest = spares_of cites (λ k among. kept k (suc among.0, let less = among.1 in omega arith, among.2)) in
        (first.0 ∷ rest.0, (ap suc rest.1.0, each first.0 first.1 rest.0 rest.1))
      where
        each : (spare : List ℕ) → IsSpare net (Kept keep) cite spare → (spares : List (List ℕ)) → AreSpares net (Kept keep) cites spares
            → (i : ℕ) → i < suc (length cites) → IsSpare net (Kept keep) (slice_index (cite ∷ cites) i) (slice_index_or (spare ∷ spares) i [])
        each spare own spares are zero below = own
        each spare own spares are (suc i) below = are.1 i (omega arith)

    clash_of : (clash : Clash) × IsProvedClash net clash
    clash_of = elim (fits_or_closed_walk net (λ j. slice_index_or keep j false) is) [
      | inl fits ↦ absurd (has.clashes fits.0 fits.1)
      | inr closed ↦
          let short = short_walk net (Kept keep) closed.1.0 closed.1.0 true is (closed.0, closed.1.1) in
          let goes : IsClosedWalk net (Kept keep) short.0 = (closed.1.0, short.1) in
          let marked = every_marked keep (length keep) in
          let kept = λ (k : ℕ) (among : Contains marked.0 k). ((marked.1.exact k).0 among).1 in
          let spares = spares_of marked.0 kept in (
            record { cites = marked.0; walk = short.0; spares = spares.0 },
            proved_links net marked.0 (Kept keep) short.0 goes
                (λ k below. (λ also. goes_over net (Kept keep) k short.0 (has.needed k (omega arith) also) goes, over_chosen net (Kept keep) short.0 closed.1.0 closed.1.0 k short.1.0)) short.2
                (λ k. (kept k, λ also. (marked.1.exact k).1 (kept_within keep k also, also)))
                (λ k also. has.needed k (omega arith) also) spares.0 marked.1.rising spares.1,
          )
    ]

  -- ---- the answer

  answered : IsAnswered net
  answered =
      let keep = all_kept net in
      let whole = length-replicate (length net.links) true in
      elim (least_or_closed_walk net (λ j. slice_index_or keep j false) is) [
        | inl found ↦ inl (
          found.0,
          same_ranks (points net) (FitsWith net (Kept keep)) (Fits net) found.0 (λ t. (
            fits_fewer net (Kept keep) EveryLink t (λ k below any. all_or_every net k below),
            fits_fewer net EveryLink (Kept keep) t (λ k below also. tt),
          )) found.1,
        )
        | inr closed ↦
            let start : AreThinned (length net.links) keep = record {
              size = whole;
              clashes = closed_walk_clashes net (Kept keep) closed.0 closed.1;
              needed = λ j past kept. absurd (omega (arith, kept_within keep j kept, whole));
            } in
            let end = thinned (length net.links) keep start in
            inr (clash_of end.0 end.1)
      ]

-- whatever the net is
pub every_net : (net : PlainNet) → IsNet net → IsAnswered net
every_net net is = answered net is

-- where some timeline fits
pub orders_are_answered : OrdersAreAnswered
orders_are_answered = λ net u atom is fits range.
    let keep = all_kept net in
    elim (walk_or_counter net (λ j. slice_index_or keep j false) is u atom (fits_fewer net EveryLink (Kept keep) u (λ k below also. tt) fits) range) [
      | inl walk ↦ inl (short_walk net EveryLink atom.from atom.to atom.strict is (walk.0, (joined_more net (Kept keep) EveryLink walk.0 atom.from atom.to (λ k also. tt) walk.1.0, walk.1.1)))
      | inr found ↦ inr (
        found.0,
        same_ranks (points net) (λ t. FitsWith net (Kept keep) t × (Satisfies t atom → ⊥)) (λ t. Fits net t × (Satisfies t atom → ⊥)) found.0 (λ t. (
          λ h. (fits_fewer net (Kept keep) EveryLink t (λ k below any. all_or_every net k below) h.0, h.1),
          λ h. (fits_fewer net EveryLink (Kept keep) t (λ k below also. tt) h.0, h.1),
        )) found.1,
      )
    ]

-- a net that some timeline fits has closed cells, which the timelines that fit keep and no others
pub closed_net : (net : PlainNet) → IsNet net → (u : Timeline) → Fits net u → (cell : ℕ → ℕ → Cell) × AreClosed (points net) cell × ((t : Timeline) → AreCellsKept (points net) cell t ↔ Fits net t)
closed_net net is u fits =
    let keep = all_kept net in
    let all = λ (t : Timeline) (h : Fits net t). fits_fewer net EveryLink (Kept keep) t (λ k below also. tt) h in
    let every = λ (t : Timeline) (h : FitsWith net (Kept keep) t). fits_fewer net (Kept keep) EveryLink t (λ k below any. all_or_every net k below) h in
    let (cell, closed, same) = closed_cells net (λ j. slice_index_or keep j false) is u (all u fits) in
    (cell, closed, λ t. (λ kept. every t ((same t).0 kept), λ h. (same t).1 (all t h)))
