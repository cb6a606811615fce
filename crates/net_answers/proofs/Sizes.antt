-- How long the text of printed evidence is.
use Rattle.std.proofs.Common.{◌≡◌, ℕ, suc, ◌+◌, ◌-◌, ◌*◌, ◌<◌, ◌≤◌, List, [], ◌∷◌, ◌++◌, length, map, get_or, codes, slice_index, None, refl, ap, arith}
use Rattle.std.specs.List.{All, AllByRecursion, Contains, concat, flat_map}
use Rattle.std.specs.List.Sorted.{IsStrictlyIncreasing}
use Rattle.std.proofs.lemmas.List.{length-append, length-map}
use Rattle.std.proofs.lemmas.List.Elements.{All-from_get_or, All-get_or, All-map, Contains-get_or, recursion_from_All}
use Rattle.net_core.specs.Atoms.{atoms_of}
use Rattle.net_core.specs.Clashes.{IsClosedOver}
use Rattle.net_core.specs.Firsts.{IsFirst}
use Rattle.net_core.specs.Fits.{EveryLink}
use Rattle.net_core.specs.Nets.{IsNet, PlainNet, points}
use Rattle.net_core.specs.Ranks.{pairs_of}
use Rattle.net_core.specs.Walks.{IsJoined}
use Rattle.net_core.specs.declared.rels.Rel.{Rel}
use Rattle.net_core.specs.declared.step.Step.{Step}
use Rattle.net_core.specs.Least.{AreSpares}
use Rattle.evidence_format.specs.Bundles.{IsClaimText, bundle_line, bundle_lines, claims_line}
use Rattle.evidence_format.specs.Evidence.{PlainEvidence, at_line, body_lines, clash, cite_line, counter, entails, step_line, timeline, timeline_lines, walk_lines}
use Rattle.line_texts.specs.Numbers.{one_number, relation_line}
use Rattle.line_texts.specs.Lines.{last_line, Lines}
use Rattle.net_core.specs.Entailment.{AreIntervals}
use Rattle.evidence_check.specs.Refusals.{Proves, atom_at, walk_at}
use Rattle.net_core.specs.Limits.{max_intervals, max_points, max_printed}
use Rattle.net_answers.proofs.FewCites.{few_cites}
use Rattle.net_answers.proofs.LineSizes.{at_size, concat_append, concat_flat_map, concat_map, few_orders, one_size, relation_size, step_size}

-- ranks of no more points than a net has, each below that
abbrev pub AreSmallRanks : List ℕ → Type 0
AreSmallRanks ranks = (length ranks ≤ max_points) × ((p : ℕ) → p < length ranks → slice_index ranks p < max_points)

-- how many bytes the lines of a timeline take at most, and those of a walk, and what is between the first line and the last one
abbrev ranks_room : ℕ
ranks_room = 13 * max_intervals + 14

abbrev walk_room : ℕ
walk_room = 19 * (2 * max_points) + 10

abbrev body_room : ℕ
body_room = max_printed - 31

-- ---- the parts of evidence

-- a line, and others after it
concat_cons : (line : List ℕ) (lines : Lines) → length (concat (line ∷ lines)) ≡ length line + length (concat lines)
concat_cons line lines = length-append line (concat lines)

-- the first two lines and the last one besides the body
text_size : (e : PlainEvidence) (text : List ℕ) (size : ℕ) → IsClaimText e text → length (concat (body_lines e)) ≤ size → length text ≤ size + 31
text_size e text size is body =
    let after : Lines = (body_lines e ++ []) ++ last_line ∷ [] in
    let all : length text ≡ length (concat (bundle_lines (e ∷ []))) = ap (λ (bytes : List ℕ). length bytes) is.1 in
    let first : length (concat (bundle_lines (e ∷ []))) ≡ length bundle_line + length (concat (claims_line 1 ∷ after)) = concat_cons bundle_line (claims_line 1 ∷ after) in
    let fifteen : length bundle_line ≡ 15 = refl in
    let few : length (claims_line 1) ≤ 12 = one_size (codes "claims ") 1 (omega arith) in
    let four : length (concat (last_line ∷ [])) ≡ 4 = refl in
    omega (arith, all, first, fifteen, concat_cons (claims_line 1) after, few, concat_append (body_lines e ++ []) (last_line ∷ []), four, concat_append (body_lines e) [], body)

-- no more than one pair for two ranks
half_pairs : (ranks : List ℕ) → 2 * length (pairs_of ranks) ≤ length ranks
half_pairs [] = omega arith
half_pairs (start ∷ []) = omega arith
half_pairs (start ∷ finish ∷ ranks) = omega (arith, half_pairs ranks)

-- the lines of small ranks are short
at_sizes : (ranks : List ℕ) → ((p : ℕ) → p < length ranks → slice_index ranks p < max_points) → AllByRecursion (λ pair. length (at_line pair) ≤ 13) (pairs_of ranks)
at_sizes [] small = tt
at_sizes (start ∷ []) small = tt
at_sizes (start ∷ finish ∷ ranks) small =
    (at_size (start, finish) (small 0 (omega arith), small 1 (omega arith)), at_sizes ranks (λ p less. small (suc (suc p)) (omega (arith, less))))

-- the lines of a timeline
ranks_size : (ranks : List ℕ) → AreSmallRanks ranks → length (concat (timeline_lines (pairs_of ranks))) ≤ ranks_room
ranks_size ranks small =
    let pairs = pairs_of ranks in
    let few = half_pairs ranks in
    let head = one_size (codes "timeline ") (length pairs) (omega (arith, few, small.0)) in
    let rest = concat_map at_line 13 pairs (at_sizes ranks small.1) in
    let all : length (concat (timeline_lines pairs)) ≡ length (one_number (codes "timeline ") (length pairs)) + length (concat (map at_line pairs)) = concat_cons (one_number (codes "timeline ") (length pairs)) (map at_line pairs) in
    omega (arith, few, small.0, head, rest, all)

module _ (net : PlainNet) (is : IsNet net) where
  -- the lines of joined steps are short
  step_sizes : (steps : List Step) (x y : ℕ) → IsJoined net EveryLink steps x y → AllByRecursion (λ step. length (step_line step) ≤ 19) steps
  step_sizes [] x y joined = tt
  step_sizes (step ∷ steps) x y joined = (step_size net step joined.0 is joined.1.0, step_sizes steps joined.0.to y joined.3)

  -- the lines of a walk
  walk_size : (steps : List Step) (x y : ℕ) → IsJoined net EveryLink steps x y → length steps ≤ 2 * points net → length (concat (walk_lines steps)) ≤ walk_room
  walk_size steps x y joined short =
      let few = is.few_intervals in
      let head = one_size (codes "walk ") (length steps) (omega (arith, few, short)) in
      let rest = concat_map step_line 19 steps (step_sizes steps x y joined) in
      let all : length (concat (walk_lines steps)) ≡ length (one_number (codes "walk ") (length steps)) + length (concat (map step_line steps)) = concat_cons (one_number (codes "walk ") (length steps)) (map step_line steps) in
      omega (arith, few, short, head, rest, all)

-- ---- the four kinds of evidence

-- the text of a timeline of small ranks
pub timeline_size : (ranks text : List ℕ) → AreSmallRanks ranks → IsClaimText (timeline (pairs_of ranks)) text → length text ≤ max_printed
timeline_size ranks text small is = omega (arith, text_size (timeline (pairs_of ranks)) text ranks_room is (ranks_size ranks small))

-- the text of a counterexample of small ranks
pub counter_size : (a b : ℕ) (r : Rel) (ranks text : List ℕ) → a < max_points → b < max_points → AreSmallRanks ranks → IsClaimText (counter a r b (pairs_of ranks)) text → length text ≤ max_printed
counter_size a b r ranks text la lb small is =
    let line = relation_line (codes "counter ") a r b in
    let head = relation_size (codes "counter ") a r b (omega (arith, la)) (omega (arith, lb)) in
    let all : length (concat (body_lines (counter a r b (pairs_of ranks)))) ≡ length line + length (concat (timeline_lines (pairs_of ranks))) = concat_cons line (timeline_lines (pairs_of ranks)) in
    omega (arith, text_size (counter a r b (pairs_of ranks)) text body_room is (omega (arith, head, all, ranks_size ranks small)))

-- the text of a relation that is proved by short walks
pub entails_size : (net : PlainNet) (a b : ℕ) (r : Rel) (walks : List (List Step)) (text : List ℕ) → IsNet net → AreIntervals net a b → length walks ≡ length (atoms_of a r b)
    → IsFirst (length (atoms_of a r b)) (Proves net (atoms_of a r b) walks) None → All (λ steps. length steps ≤ 2 * points net) walks
    → IsClaimText (entails a r b walks) text → length text ≤ max_printed
entails_size net a b r walks text is range one_each proofs short text_is =
    let few = is.few_intervals in
    let line = relation_line (codes "entails ") a r b in
    let head = relation_size (codes "entails ") a r b (omega (arith, range.0, few)) (omega (arith, range.1, few)) in
    let each : All (λ (steps : List Step). length (concat (walk_lines steps)) ≤ walk_room) walks =
    All-from_get_or (λ (steps : List Step). length (concat (walk_lines steps)) ≤ walk_room) walks [] (λ k lt.
    let proof = proofs k (omega (arith, lt, one_each)) in
    walk_size net is (walk_at walks k) (atom_at (atoms_of a r b) k).from (atom_at (atoms_of a r b) k).to proof.0 (All-get_or (λ (steps : List Step). length steps ≤ 2 * points net) walks k [] lt short)) in
    let rest = concat_flat_map walk_lines walk_room walks (recursion_from_All (λ (steps : List Step). length (concat (walk_lines steps)) ≤ walk_room) walks each) in
    let all : length (concat (body_lines (entails a r b walks))) ≡ length line + length (concat (flat_map walk_lines walks)) = concat_cons line (flat_map walk_lines walks) in
    omega (arith, text_size (entails a r b walks) text body_room text_is (omega (arith, head, rest, all, one_each, few_orders r a b)))

module _ (net : PlainNet) (is : IsNet net) where
  -- a spare has small ranks
  spare_size : (cites : List ℕ) (spares : List (List ℕ)) → AreSpares net (Contains cites) cites spares → (i : ℕ) → i < length spares → length (concat (timeline_lines (pairs_of (get_or spares i [])))) ≤ ranks_room
  spare_size cites spares are i lt =
      let few = is.few_intervals in
      let spare = are.1 i (omega (arith, lt, are.0)) in
      let size = spare.size in
      ranks_size (get_or spares i []) (omega (arith, size, few), λ p less. let small = spare.small p (omega (arith, less, size)) in omega (arith, small, few))

  -- the lines of all spares
  spares_size : (cites : List ℕ) (spares : List (List ℕ)) → AreSpares net (Contains cites) cites spares → length (concat (flat_map timeline_lines (map pairs_of spares))) ≤ ranks_room * length cites
  spares_size cites spares are =
      let Fits : List (ℕ × ℕ) → Type 0 = λ pairs. length (concat (timeline_lines pairs)) ≤ ranks_room in
      let each : All Fits (map pairs_of spares) = All-map Fits pairs_of spares (All-from_get_or (λ (ranks : List ℕ). Fits (pairs_of ranks)) spares [] (spare_size cites spares are)) in
      omega (arith, concat_flat_map timeline_lines ranks_room (map pairs_of spares) (recursion_from_All Fits (map pairs_of spares) each), length-map spares pairs_of, are.0)

  -- the lines of cites
  cites_size : (cites : List ℕ) → All (λ k. k < length net.links) cites → length (concat (map cite_line cites)) ≤ 10 * length cites
  cites_size cites links =
      let few = is.few_links in
      let each : All (λ (k : ℕ). length (cite_line k) ≤ 10) cites =
      All-from_get_or (λ (k : ℕ). length (cite_line k) ≤ 10) cites 0 (λ i lt. let less = All-get_or (λ (k : ℕ). k < length net.links) cites i 0 lt links in one_size (codes "cite ") (get_or cites i 0) (omega (arith, less, few))) in
      concat_map cite_line 10 cites (recursion_from_All (λ (k : ℕ). length (cite_line k) ≤ 10) cites each)

-- the text of a clash: each link that it cites has a step, so there are no more spares than steps
pub clash_size : (net : PlainNet) (cites : List ℕ) (walk : List Step) (spares : List (List ℕ)) (text : List ℕ) → IsNet net → IsStrictlyIncreasing cites → All (λ k. k < length net.links) cites
    → IsClosedOver net cites walk → length walk ≤ 2 * points net → AreSpares net (Contains cites) cites spares → IsClaimText (clash cites walk (map pairs_of spares)) text → length text ≤ max_printed
clash_size net cites walk spares text is rising links closed short are text_is =
    let few = is.few_intervals in
    let cited = cites_size net is cites links in
    let spared = spares_size net is cites spares are in
    let walked = walk_size net is walk closed.0.0 closed.0.0 closed.0.1.0 short in
    let fewer = few_cites cites walk rising (λ i lt. (closed.1 (get_or cites i 0) (All-get_or (λ (k : ℕ). k < length net.links) cites i 0 lt links)).1 (Contains-get_or cites i 0 lt)) in
    let line = one_number (codes "clash ") (length cites) in
    let head = one_size (codes "clash ") (length cites) (omega (arith, fewer, short, few)) in
    let after = flat_map timeline_lines (map pairs_of spares) in
    let all : length (concat (body_lines (clash cites walk (map pairs_of spares)))) ≡ length line + length (concat (map cite_line cites ++ (walk_lines walk ++ after))) = concat_cons line (map cite_line cites ++ (walk_lines walk ++ after)) in
    let first = concat_append (map cite_line cites) (walk_lines walk ++ after) in
    let second = concat_append (walk_lines walk) after in
    omega (arith, text_size (clash cites walk (map pairs_of spares)) text body_room text_is (omega (arith, head, all, first, second, cited, walked, spared, fewer, short, few)))
