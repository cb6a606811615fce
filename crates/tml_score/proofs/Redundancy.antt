-- The links that stay when those that follow from others are left out: what they say, that there is one list of them, and that there is one at all.
use Rattle.std.proofs.Common.{◌≡◌, ◌↔◌, ◌⊎◌, inl, inr, ℕ, zero, suc, ◌+◌, ◌<◌, ◌≤◌, Bool, true, false, List, [], ◌∷◌, length, slice_index_or, slice_set, replicate, sym, subst, ◌∙◌, arith}
use Rattle.std.specs.List.{AllByRecursion, Contains}
use Rattle.std.specs.List.Sorted.{IsStrictlyIncreasing}
use Rattle.std.proofs.lemmas.Bool.{cases_eq, cases_lt}
use Rattle.std.proofs.lemmas.List.Elements.{All-contains, All-contains_itself, All-get_or, All-weaker}
use Rattle.std.proofs.lemmas.List.{get_or-replicate, length-replicate, length-set}
use Rattle.clash.proofs.Complete.{walk_or_counter}
use Rattle.clash.proofs.MarkedLinks.{every_marked, kept_within}
use Rattle.clash.proofs.ClosedWalks.{others_set, set_others}
use Rattle.net_core.specs.Atoms.{IsInRange, Satisfies, atoms_of}
use Rattle.net_core.specs.Clashes.{Others}
use Rattle.net_core.specs.Fits.{EveryLink, Fits, FitsWith, KeepsLink}
use Rattle.net_core.specs.Nets.{IsNet, PlainNet, link_at, points}
use Rattle.net_core.specs.Ranks.{timeline_of}
use Rattle.net_core.specs.Relations.{Timeline}
use Rattle.net_core.specs.Walks.{Kept}
use Rattle.net_core.specs.declared.atom.Atom.{Atom}
use Rattle.net_core.specs.declared.net.NetLink.{NetLink}
use Rattle.net_core.specs.declared.rels.Rel.TheVariants as rel
use Rattle.net_core.proofs.AtomLaws.{atoms_in_range, atoms_say_the_relation}
use Rattle.net_core.proofs.StepLaws.{fits_fewer}
use Rattle.net_core.proofs.WalkLaws.{walk_kept}
use Rattle.tml_score.specs.Reduced.{Beside, CanFailWith, EveryNetIsReduced, FollowsFrom, IsReduced, OneReducedList, ReducedLinksSayTheSame}
use Rattle.tml_score.specs.Reducing.{AreDecided, DecidesLink}
use Rattle.tml_score.proofs.Rising.{member_or_not, one_rising}

-- ---- what they say

module _ (net : PlainNet) (links : List ℕ) (is : IsReduced net links) (t : Timeline) (fits : FitsWith net (Contains links) t) where
  -- the last m links hold, one after another from the last on
  last_hold : (m k : ℕ) → k < length net.links → length net.links ≤ k + m → KeepsLink net t k
  last_hold zero k below few = absurd (omega arith)
  last_hold (suc m) k below few = elim (member_or_not links k) [
    | inl stays ↦ fits.links k below stays
    | inr not ↦ is.left_out k below not t (record {
      order = fits.order;
      links = λ j lt beside. elim (cases_lt j k) [
        | inl before ↦ fits.links j lt (beside.1 before)
        | inr after ↦ let other = beside.0 in last_hold m j lt (omega arith)
      ];
      calendar = fits.calendar;
    })
  ]

  all_fit : Fits net t
  all_fit = record { order = fits.order; links = λ k below any. last_hold (length net.links) k below (omega arith); calendar = fits.calendar }

pub reduced_links_say_the_same : ReducedLinksSayTheSame
reduced_links_say_the_same = λ net links is. record {
  same = λ t. (all_fit net links is t, fits_fewer net EveryLink (Contains links) t (λ k below stays. tt));
  needed = λ k stays.
      let can = is.stay k stays in
      (can.0, fits_fewer net (Beside (Contains links) k) (Others (Contains links) k) can.0 (λ j below other. (other.1, λ before. other.0)) can.1, can.2);
}

-- ---- that there is one list

-- a link that stays in one list stays in the other, where both agree on the links before it
stays_too : (net : PlainNet) (links others : List ℕ) → IsReduced net links → IsReduced net others → (k : ℕ) → ((j : ℕ) → j < k → Contains links j ↔ Contains others j) → Contains links k → Contains others k
stays_too net links others is are k same stays = elim (member_or_not others k) [
  | inl too ↦ too
  | inr not ↦
      let can = is.stay k stays in
      let below = All-contains (λ (j : ℕ). j < length net.links) links k is.of_net stays in
      absurd (can.2 (are.left_out k below not can.0 (fits_fewer net (Beside (Contains links) k) (Beside (Contains others) k) can.0 (λ j lt beside. (beside.0, λ before. (same j before).1 (beside.1 before))) can.1)))
]

-- two lists agree on each link
agree : (net : PlainNet) (links others : List ℕ) → IsReduced net links → IsReduced net others → (n k : ℕ) → k < n → Contains links k ↔ Contains others k
agree net links others is are zero k lt = absurd (omega arith)
agree net links others is are (suc n) k lt =
    let before = λ (j : ℕ) (less : j < k). agree net links others is are n j (omega (arith, less, lt)) in (
      stays_too net links others is are k before,
      stays_too net others links are is k (λ j less. ((before j less).1, (before j less).0)),
    )

pub one_reduced_list : OneReducedList
one_reduced_list = λ net links others is are. one_rising links others is.rising are.rising (λ k. agree net links others is are (suc k) k (omega arith))

-- ---- links one after another

-- the others that are kept are those beside the link that is taken next
others_beside : (net : PlainNet) (n : ℕ) (keep : List Bool) → AreDecided net n keep → (j : ℕ) → j < length net.links → Beside (Kept keep) n j → Others (Kept keep) n j
others_beside net n keep are j below beside = elim (cases_lt j n) [
  | inl before ↦ (beside.1 before, beside.0)
  | inr later ↦ (are.later j later below, beside.0)
]

beside_others : (n : ℕ) (keep : List Bool) (j : ℕ) → Others (Kept keep) n j → Beside (Kept keep) n j
beside_others n keep j other = (other.1, λ before. other.0)

-- no link is taken yet
pub none_decided : (net : PlainNet) → AreDecided net 0 (replicate (length net.links) true)
none_decided net = record {
  size = length-replicate (length net.links) true;
  later = λ k low below. get_or-replicate (length net.links) k true false below;
  stay = λ k lt. absurd (omega arith);
  left_out = λ k lt. absurd (omega arith);
  same = λ t fits. fits_fewer net (Kept (replicate (length net.links) true)) EveryLink t (λ k below any. get_or-replicate (length net.links) k true false below) fits;
}

-- one link more, which stays
pub decided_kept : (net : PlainNet) (n : ℕ) (keep : List Bool) → AreDecided net n keep → n < length net.links → DecidesLink net keep n false → AreDecided net (n + 1) keep
decided_kept net n keep are below can = record {
  size = are.size;
  later = λ k low lt. are.later k (omega (arith, low)) lt;
  stay = λ k lt kept. elim (cases_lt k n) [
    | inl before ↦ are.stay k before kept
    | inr last ↦
        let same : n ≡ k = omega (arith, last, lt) in
        subst (λ (j : ℕ). CanFailWith net (Beside (Kept keep) j) j) same
        (can.0, fits_fewer net (Others (Kept keep) n) (Beside (Kept keep) n) can.0 (others_beside net n keep are) can.1, can.2)
  ];
  left_out = λ k lt not. elim (cases_lt k n) [
    | inl before ↦ are.left_out k before not
    | inr last ↦
        let same : n ≡ k = omega (arith, last, lt) in
        absurd (not (subst (Kept keep) same (are.later n (omega arith) below)))
  ];
  same = are.same;
}

-- one link more, which is left out
module _ (net : PlainNet) (n : ℕ) (keep : List Bool) (are : AreDecided net n keep) (below : n < length net.links) (follows : DecidesLink net keep n true) where
  abbrev without : List Bool
  without = slice_set keep n false

  -- what is beside a link up to this one is the same
  beside_kept : (k j : ℕ) → k ≤ n → Beside (Kept keep) k j → Beside (Kept without) k j
  beside_kept k j low beside = (beside.0, λ before. others_set keep n j (beside.1 before, λ e. omega (arith, e, before, low)))

  kept_beside : (k j : ℕ) → Beside (Kept without) k j → Beside (Kept keep) k j
  kept_beside k j beside = (beside.0, λ before. (set_others keep n j (beside.1 before)).0)

  pub decided_left_out : AreDecided net (n + 1) without
  decided_left_out = record {
    size = length-set keep n false ∙ are.size;
    later = λ k low lt. others_set keep n k (are.later k (omega (arith, low)) lt, λ e. omega (arith, e, low));
    stay = λ k lt kept.
        let other = set_others keep n k kept in
        let before : k < n = let ne = other.1 in omega (arith, lt) in
        let can = are.stay k before other.0 in
        (can.0, fits_fewer net (Beside (Kept keep) k) (Beside (Kept without) k) can.0 (λ j lj. kept_beside k j) can.1, can.2);
    left_out = λ k lt not. elim (cases_lt k n) [
      | inl before ↦ λ t fits. are.left_out k before (λ kept. not (others_set keep n k (kept, λ e. omega (arith, e, before)))) t
          (fits_fewer net (Beside (Kept without) k) (Beside (Kept keep) k) t (λ j lj. beside_kept k j (omega (arith, before))) fits)
      | inr last ↦
          let same : n ≡ k = omega (arith, last, lt) in
          subst (λ (j : ℕ). FollowsFrom net (Beside (Kept without) j) j) same
          (λ t fits. follows t (fits_fewer net (Beside (Kept without) n) (Others (Kept keep) n) t (λ j lj other. beside_kept n j (omega arith) (beside_others n keep j other)) fits))
    ];
    same = λ t fits.
        let holds = follows t (fits_fewer net (Kept without) (Others (Kept keep) n) t (λ j lj. others_set keep n j) fits) in
        are.same t (record {
          order = fits.order;
          links = λ k lt kept. elim (cases_eq k n) [
            | inl e ↦ subst (KeepsLink net t) (sym e) holds
            | inr other ↦ fits.links k lt (others_set keep n k (kept, other))
          ];
          calendar = fits.calendar;
        });
  }

-- when all are taken, those that are kept are the links that stay
pub reduced_when_done : (net : PlainNet) (keep : List Bool) (links : List ℕ) → AreDecided net (length net.links) keep → IsStrictlyIncreasing links → ((k : ℕ) → Contains links k ↔ Kept keep k) → IsReduced net links
reduced_when_done net keep links are rising exact = record {
  rising = rising;
  of_net = All-weaker (Contains links) (λ (k : ℕ). k < length net.links) (λ k stays. within k stays) links (All-contains_itself links);
  stay = λ k stays.
      let can = are.stay k (within k stays) ((exact k).0 stays) in
      (can.0, fits_fewer net (Beside (Kept keep) k) (Beside (Contains links) k) can.0 (λ j lj beside. (beside.0, λ before. (exact j).0 (beside.1 before))) can.1, can.2);
  left_out = λ k below not t fits. are.left_out k below (λ kept. not ((exact k).1 kept)) t (fits_fewer net (Beside (Contains links) k) (Beside (Kept keep) k) t (λ j lj beside. (beside.0, λ before. (exact j).1 (beside.1 before))) fits);
}
  where
    within : (k : ℕ) → Contains links k → k < length net.links
    within k stays = omega (arith, kept_within keep k ((exact k).0 stays), are.size)

-- ---- that there is one at all

module _ (net : PlainNet) (is : IsNet net) (u : Timeline) (all_fit_u : Fits net u) where
  -- some orders hold in all timelines that fit with some links, or one of them fails in one
  pub atoms_decided : (keep : List Bool) (atoms : List Atom) → AllByRecursion (IsInRange (points net)) atoms
      → ((t : Timeline) → FitsWith net (Kept keep) t → AllByRecursion (Satisfies t) atoms) ⊎ ((t : Timeline) × FitsWith net (Kept keep) t × (AllByRecursion (Satisfies t) atoms → ⊥))
  atoms_decided keep [] range = inl (λ t fits. tt)
  atoms_decided keep (atom ∷ atoms) range = elim (walk_or_counter net (λ j. slice_index_or keep j false) is u atom (fits_fewer net EveryLink (Kept keep) u (λ k below kept. tt) all_fit_u) range.0) [
    | inr counter ↦ let holds = counter.1.least.holds in inr (timeline_of counter.0, holds.0, λ all. holds.1 all.0)
    | inl walk ↦ elim (atoms_decided keep atoms range.1) [
      | inl rest ↦ inl (λ t fits. (walk_kept net (Kept keep) t walk.0 atom.from atom.to atom.strict fits walk.1, rest t fits))
      | inr fails ↦ inr (fails.0, fails.1, λ all. fails.2 all.1)
    ]
  ]

  -- a link follows from the others that are kept, or it can fail
  link_decided : (keep : List Bool) (k : ℕ) → k < length net.links → DecidesLink net keep k true ⊎ DecidesLink net keep k false
  link_decided keep k below =
      let link = link_at net k in
      let ends = All-get_or (λ (l : NetLink). (l.a < length net.bounds) × (l.b < length net.bounds)) net.links k (record { a = 0; rel = rel.Before; b = 0 }) below is.ends in
      let law = λ (t : Timeline). atoms_say_the_relation t link.rel link.a link.b in
      let without = slice_set keep k false in
      elim (atoms_decided without (atoms_of link.a link.rel link.b) (atoms_in_range (length net.bounds) link.rel link.a link.b ends.0 ends.1)) [
        | inl all ↦ inl (λ t fits. (law t).1 (all t (fits_fewer net (Others (Kept keep) k) (Kept without) t (λ j lj kept. set_others keep k j kept) fits)))
        | inr fails ↦ inr (fails.0, fits_fewer net (Kept without) (Others (Kept keep) k) fails.0 (λ j lj other. others_set keep k j other) fails.1, λ holds. fails.2 ((law fails.0).0 holds))
      ]

  all_decided : (n : ℕ) → n ≤ length net.links → (keep : List Bool) × AreDecided net n keep
  all_decided zero low = (replicate (length net.links) true, none_decided net)
  all_decided (suc n) low =
      let so_far = all_decided n (omega (arith, low)) in
      let more : n + 1 ≡ suc n = omega arith in
      subst (λ (m : ℕ). (keep : List Bool) × AreDecided net m keep) more (elim (link_decided so_far.0 n (omega (arith, low))) [
        | inl follows ↦ (slice_set so_far.0 n false, decided_left_out net n so_far.0 so_far.1 (omega (arith, low)) follows)
        | inr can ↦ (so_far.0, decided_kept net n so_far.0 so_far.1 (omega (arith, low)) can)
      ])

  some_reduced : (links : List ℕ) × IsReduced net links
  some_reduced =
      let done = all_decided (length net.links) (omega arith) in
      let marked = every_marked done.0 (length done.0) in
      (marked.0, reduced_when_done net done.0 marked.0 done.1 marked.1.rising (λ k. (λ among. ((marked.1.exact k).0 among).1, λ kept. (marked.1.exact k).1 (kept_within done.0 k kept, kept))))

pub every_net_is_reduced : EveryNetIsReduced
every_net_is_reduced = λ net is fits. some_reduced net is fits.0 fits.1
