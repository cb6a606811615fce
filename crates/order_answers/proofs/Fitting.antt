-- Every net that some timeline fits has an answer to what is asked of it: the text of its least timeline, and of each relation a proof or a counterexample.
use Rattle.std.proofs.Common.{◌⊎◌, inl, inr, ℕ, zero, suc, ◌*◌, ◌<◌, ◌≤◌, List, [], ◌∷◌, length, get_or, false, refl, ap, subst, sym, arith, None, Some}
use Rattle.std.specs.List.{AllByRecursion, Contains}
use Rattle.std.proofs.lemmas.Bool.{cases_lt}
use Rattle.std.proofs.lemmas.List.{get_or_past}
use Rattle.std.proofs.lemmas.List.Elements.{All-cons, All-from_get_or, All-from_recursion, All-get_or, All-nil, recursion_from_All}
use Rattle.net_core.specs.Atoms.{IsInRange, Satisfies, atoms_of}
use Rattle.net_core.specs.Firsts.{IsFirst}
use Rattle.net_core.specs.Limits.{max_points}
use Rattle.net_core.specs.Fits.{EveryLink, Fits}
use Rattle.net_core.specs.Nets.{IsNet, PlainNet, intervals, points}
use Rattle.net_core.specs.Ranks.{pairs_of, timeline_of}
use Rattle.net_core.specs.Relations.{Timeline}
use Rattle.net_core.specs.declared.atom.Atom.{Atom}
use Rattle.net_core.specs.declared.rels.Rel.{Rel}
use Rattle.net_core.specs.declared.step.Step.{Step}
use Rattle.net_core.proofs.AtomLaws.{atoms_in_range, atoms_say_the_relation}
use Rattle.net_core.proofs.FirstLaws.{first_or_none}
use Rattle.net_core.proofs.StepLaws.{fits_fewer}
use Rattle.net_core.proofs.WalkLaws.{walk_kept}
use Rattle.order_closure.specs.Tables.{AreInRange}
use Rattle.net_core.specs.Least.{AreLeast, AreLeastRanks}
use Rattle.clash.specs.Walks.{HasShortWalk}
use Rattle.clash.proofs.Answered.{every_net, orders_are_answered}
use Rattle.derive_rel.specs.declared.all_rows.Row.{Row}
use Rattle.derive_rel.proofs.AllThere.{all_there}
use Rattle.net_core.specs.Entailment.{AlwaysHolds, AreIntervals, Follows, HasTimeline}
use Rattle.evidence_check.specs.Refusals.{Proves, atom_at}
use Rattle.evidence_format.specs.Evidence.{AreRanks, PlainEvidence, counter, entails, timeline}
use Rattle.evidence_format.proofs.Claims.{claim_text, has_claim_text}
use Rattle.evidence_format.proofs.SmallRanks.{small_ranks}
use Rattle.runs.specs.declared.status.Status.TheVariants.{Done}
use Rattle.order_answers.specs.Ask.{AreWalks, OfRelation, ShowsCounterexample, ShowsProof}
use Rattle.order_answers.specs.Solve.{ShowsTimeline}
use Rattle.order_answers.specs.Relations.{AreRelations, FollowsBetween}
use Rattle.net_answers.specs.Showing.{ShowsEvidence}
use Rattle.order_answers.proofs.Counterexamples.{counter_shows}
use Rattle.net_answers.proofs.Sizes.{counter_size, timeline_size}
use Rattle.order_answers.proofs.Timelines.{timeline_supported}
use Rattle.order_answers.proofs.WalkProofs.{proof_well_formed, shows_proof}

module _ (net : PlainNet) (is : IsNet net) where
  -- ---- a timeline

  -- a net has no more points than two for each interval
  few_points : points net ≤ max_points
  few_points = let few = is.few_intervals in omega arith

  -- least ranks can stand in a text
  ranks_written : (P : Timeline → Type 0) (ranks : List ℕ) → AreLeast (points net) P ranks → AreRanks (pairs_of ranks)
  ranks_written P ranks are = let few = few_points in small_ranks (points net) ranks (omega arith) are.size are.small

  -- and are small
  ranks_small : (P : Timeline → Type 0) (ranks : List ℕ) → AreLeast (points net) P ranks → (p : ℕ) → p < length ranks → get_or ranks p 0 < max_points
  ranks_small P ranks are p less = let few = few_points in let size = are.size in let small = are.small p (omega arith) in omega arith

  -- the least ranks have a text
  timeline_text : (ranks : List ℕ) → AreLeast (points net) (Fits net) ranks → (text : List ℕ) × ShowsEvidence net (timeline (pairs_of ranks)) text
  timeline_text ranks are =
      let e = timeline (pairs_of ranks) in
      let few = few_points in
      let size = are.size in
      let holds = are.least.holds in
      let written = ranks_written (Fits net) ranks are in (
        claim_text e,
        (
          has_claim_text e written,
          timeline_supported net ranks (size, holds),
          (timeline_of ranks, holds),
          timeline_size ranks (claim_text e) (omega arith, ranks_small (Fits net) ranks are) (has_claim_text e written),
        ),
      )

  -- ---- orders that always hold

  module _ (fits : HasTimeline net) where
    -- whether an order always holds
    always_or_not : (atom : Atom) → IsInRange (points net) atom → Dec (AlwaysHolds net atom)
    always_or_not atom range = elim (orders_are_answered net fits.0 atom is fits.1 range) [
      | inl walk ↦ yes (λ t other. walk_kept net EveryLink t walk.0 atom.from atom.to atom.strict other walk.1)
      | inr found ↦ no (λ always. found.1.least.holds.1 (always (timeline_of found.0) found.1.least.holds.0))
    ]

    -- the first order of some that does not always hold, or none
    first_open_or_none : (atoms : List Atom) → AreInRange (points net) atoms → IsFirst (length atoms) (λ k. AlwaysHolds net (atom_at atoms k)) None ⊎ ((k : ℕ) × IsFirst (length atoms) (λ k. AlwaysHolds net (atom_at atoms k)) (Some k))
    first_open_or_none atoms range = first_or_none (length atoms) (λ k. AlwaysHolds net (atom_at atoms k)) (λ k. elim (cases_lt k (length atoms)) [
      | inl within ↦ always_or_not (atom_at atoms k) (All-get_or (IsInRange (points net)) atoms k (record { from = 0; to = 0; strict = false }) within range)
      | inr past ↦ yes (subst (AlwaysHolds net) (sym (get_or_past atoms k (record { from = 0; to = 0; strict = false }) past)) (λ t other. omega arith))
    ])

    -- a short walk for each of some orders that always hold
    walks_for : (atoms : List Atom) → AllByRecursion (IsInRange (points net)) atoms → AllByRecursion (AlwaysHolds net) atoms → (walks : List (List Step)) × AreWalks net atoms walks
    walks_for [] range always = ([], record { one_each = refl; proofs = λ k less. absurd (omega arith); short = All-nil (λ steps. length steps ≤ 2 * points net) })
    walks_for (atom ∷ atoms) range always = elim (orders_are_answered net fits.0 atom is fits.1 range.0) [
      | inl walk ↦
          let rest = walks_for atoms range.1 always.1 in
          (walk.0 ∷ rest.0, record { one_each = ap suc rest.1.one_each; proofs = each walk rest.0 rest.1; short = All-cons (λ steps. length steps ≤ 2 * points net) walk.0 rest.0 walk.2 rest.1.short })
      | inr found ↦ absurd (found.1.least.holds.1 (always.0 (timeline_of found.0) found.1.least.holds.0))
    ]
      where
        each : (walk : HasShortWalk net EveryLink atom.from atom.to atom.strict) (walks : List (List Step)) → AreWalks net atoms walks → IsFirst (suc (length atoms)) (Proves net (atom ∷ atoms) (walk.0 ∷ walks)) None
        each walk walks are zero less = walk.1
        each walk walks are (suc k) less = are.proofs k (omega arith)

    -- ---- a relation that is asked

    module _ (a : ℕ) (r : Rel) (b : ℕ) (both : AreIntervals net a b) where
      orders_in_range : AllByRecursion (IsInRange (points net)) (atoms_of a r b)
      orders_in_range = atoms_in_range (intervals net) r a b both.0 both.1

      -- each order by its number
      all_always : IsFirst (length (atoms_of a r b)) (λ k. AlwaysHolds net (atom_at (atoms_of a r b) k)) None → AllByRecursion (AlwaysHolds net) (atoms_of a r b)
      all_always all = recursion_from_All (AlwaysHolds net) (atoms_of a r b) (All-from_get_or (AlwaysHolds net) (atoms_of a r b) (record { from = 0; to = 0; strict = false }) all)

      proof_of : AllByRecursion (AlwaysHolds net) (atoms_of a r b) → (text : List ℕ) × ShowsProof net a r b text
      proof_of always =
          let found = walks_for (atoms_of a r b) orders_in_range always in
          let e : PlainEvidence = entails a r b found.0 in
          (claim_text e, shows_proof net a r b is both found.0 found.1 (claim_text e) (has_claim_text e (proof_well_formed net a r b is both found.0 found.1)))

      counter_of : (k : ℕ) → IsFirst (length (atoms_of a r b)) (λ k. AlwaysHolds net (atom_at (atoms_of a r b) k)) (Some k) → (text : List ℕ) × ShowsCounterexample net a r b text
      counter_of k first =
          let atom = atom_at (atoms_of a r b) k in
          let range = All-get_or (IsInRange (points net)) (atoms_of a r b) k (record { from = 0; to = 0; strict = false }) first.0 (All-from_recursion (IsInRange (points net)) (atoms_of a r b) orders_in_range) in
          elim (orders_are_answered net fits.0 atom is fits.1 range) [
            | inl walk ↦ absurd (first.1 (λ t other. walk_kept net EveryLink t walk.0 atom.from atom.to atom.strict other walk.1))
            | inr found ↦
                let P : Timeline → Type 0 = λ t. Fits net t × (Satisfies t atom → ⊥) in
                let e : PlainEvidence = counter a r b (pairs_of found.0) in
                let few = is.few_intervals in
                let small_points = few_points in
                let size = found.1.size in
                let written = ranks_written P found.0 found.1 in
                let left = both.0 in
                let right = both.1 in
                let shown = has_claim_text e (omega arith, omega arith, written) in (
                  claim_text e,
                  counter_shows net a r b atom found.0 (claim_text e) both (k, first, refl) size found.1.least shown
                      (counter_size a b r found.0 (claim_text e) (omega arith) (omega arith) (omega arith, ranks_small P found.0 found.1) shown),
                )
          ]

      -- what follows, and what does not
      relation_follows : AllByRecursion (AlwaysHolds net) (atoms_of a r b) → Follows net a r b
      relation_follows always t other = (atoms_say_the_relation t r a b).1 (satisfied (atoms_of a r b) always)
        where
          satisfied : (atoms : List Atom) → AllByRecursion (AlwaysHolds net) atoms → AllByRecursion (Satisfies t) atoms
          satisfied [] always = tt
          satisfied (atom ∷ atoms) always = (always.0 t other, satisfied atoms always.1)

      follows_or_not : Dec (Follows net a r b)
      follows_or_not = elim (first_open_or_none (atoms_of a r b) (All-from_recursion (IsInRange (points net)) (atoms_of a r b) orders_in_range)) [
        | inl all ↦ yes (relation_follows (all_always all))
        | inr first ↦ no (λ follows. first.1.1 (λ t other.
            All-get_or (Satisfies t) (atoms_of a r b) first.0 (record { from = 0; to = 0; strict = false }) first.1.0 (All-from_recursion (Satisfies t) (atoms_of a r b) ((atoms_say_the_relation t r a b).0 (follows t other)))))
      ]

      pub some_answer : (text : List ℕ) × OfRelation a r b net Done text
      some_answer = elim (first_open_or_none (atoms_of a r b) (All-from_recursion (IsInRange (points net)) (atoms_of a r b) orders_in_range)) [
        | inl all ↦ let shown = proof_of (all_always all) in (shown.0, inl shown.1)
        | inr first ↦ let shown = counter_of first.0 first.1 in (shown.0, inr shown.1)
      ]

    -- whether a relation follows between an interval and one after it
    row_or_not : (row : Row) → Dec (FollowsBetween net row)
    row_or_not row = elim (cases_lt row.a row.b) [
      | inr not ↦ no (λ h. let less = h.0 in omega arith)
      | inl before ↦ elim (cases_lt row.b (intervals net)) [
        | inr past ↦ no (λ h. let within = h.1 in omega arith)
        | inl within ↦ elim (follows_or_not row.a row.rel row.b (omega arith, within)) [
          | yes follows ↦ yes (before, within, follows)
          | no never ↦ no (λ h. never h.2)
        ]
      ]
    ]

    -- ---- the answers

    -- there are least ranks that fit
    least_ranks : (ranks : List ℕ) × AreLeast (points net) (Fits net) ranks
    least_ranks = elim (every_net net is) [
      | inl found ↦ found
      | inr found ↦ absurd (found.1.minimal.clashes fits.0 (fits_fewer net EveryLink (Contains found.0.cites) fits.0 (λ k below among. tt) fits.1))
    ]

    -- the text of the least timeline
    pub some_timeline : (text : List ℕ) × ShowsTimeline net text
    some_timeline = let found = least_ranks in let shown = timeline_text found.0 found.1 in (shown.0, (found.0, (found.1.size, found.1.least), shown.1))

    -- the relations that follow
    pub some_relations : (rows : List Row) × AreRelations net rows
    some_relations = all_there (FollowsBetween net) (intervals net) row_or_not (λ row h. (h.0, h.1))

  -- the least ranks that fit are below the number of points
  pub least_below : (ranks : List ℕ) → AreLeastRanks net ranks → (p : ℕ) → p < length ranks → get_or ranks p 0 < length ranks
  least_below ranks are p less =
      let size = are.0 in
      let found = least_ranks (timeline_of ranks, are.1.holds) in
      let under = are.1.least (timeline_of found.0) found.1.least.holds p (omega arith) in
      let small = found.1.small p (omega arith) in
      omega arith
