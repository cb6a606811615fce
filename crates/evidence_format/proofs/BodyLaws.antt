-- The reader of a body is exact.
use Rattle.std.proofs.Common.{◌≡◌, ℕ, List, [], ◌∷◌, ◌++◌, length, map, Ok, refl, sym, ap, subst, ◌∙◌, arith}
use Rattle.std.specs.Prelude.{codes}
use Rattle.std.specs.List.{flat_map}
use Rattle.std.proofs.lemmas.List.Concat.{flat_map_single}
use Rattle.std.proofs.lemmas.List.Elements.{All-from_recursion, recursion_from_All}
use Rattle.net_core.specs.Atoms.{atom_count}
use Rattle.net_core.specs.declared.rels.Rel.{Rel}
use Rattle.net_core.specs.declared.step.Step.{Step}
use Rattle.evidence_format.specs.declared.head.EvidenceHead.{EvidenceHead}
use Rattle.evidence_format.specs.declared.head.EvidenceHead.TheVariants.{Timeline, Entails, Counter, Clash}
use Rattle.line_texts.specs.Lines.{Lines}
use Rattle.line_texts.specs.Reading.{◌>>=◌, line_at, many_at}
use Rattle.line_texts.specs.Grammar.{Then}
use Rattle.evidence_format.specs.Evidence.{PlainEvidence, timeline, entails, counter, clash, AreRanks, AreSteps, IsWellFormed, at_line, timeline_lines, walk_lines, cite_line, body_lines, HasNumbers, step_line}
use Rattle.line_texts.specs.Numbers.{IsNumber, IsPair}
use Rattle.line_texts.specs.Words.{two_of}
use Rattle.evidence_format.specs.Forms.{head_of, step_of}
use Rattle.evidence_format.specs.Readers.{ranks_at, timeline_at, walk_at, cites_at, rest_at, body_at}
use Rattle.line_texts.proofs.Exact.{Exact, exact_then, exact_same}
use Rattle.evidence_format.proofs.FormLaws.{head_line, IsHead, head_form, step_form}
use Rattle.line_texts.proofs.ReaderLaws.{Has, AreMany, exact_counted, exact_form, exact_map, exact_many}
use Rattle.evidence_format.proofs.CiteLaws.{HasCites, exact_cites}
use Rattle.net_core.specs.declared.step.Step.TheVariants.{Span}
use Rattle.line_texts.proofs.WordLaws.{two_form, pair_line}

-- the kind of evidence
abbrev head_for : PlainEvidence → EvidenceHead
head_for (timeline ranks) = Timeline (length ranks)
head_for (entails a r b walks) = Entails a r b
head_for (counter a r b ranks) = Counter a r b
head_for (clash cites walk spares) = Clash (length cites)

-- the lines that follow the one that tells the kind
abbrev pub rest_lines : PlainEvidence → Lines
rest_lines (timeline ranks) = map at_line ranks
rest_lines (entails a r b walks) = flat_map walk_lines walks
rest_lines (counter a r b ranks) = timeline_lines ranks
rest_lines (clash cites walk spares) = map cite_line cites ++ (walk_lines walk ++ flat_map timeline_lines spares)

-- evidence of a kind, by those lines
abbrev pub HasRest : EvidenceHead → PlainEvidence → Lines → Type 0
HasRest h e ls = IsWellFormed e × (head_for e ≡ h) × (ls ≡ rest_lines e)

-- the body is the line that names the kind, and those that follow it
pub body_is : (e : PlainEvidence) → body_lines e ≡ head_line (head_for e) ∷ rest_lines e
body_is (timeline ranks) = refl
body_is (entails a r b walks) = refl
body_is (counter a r b ranks) = refl
body_is (clash cites walk spares) = refl

-- the kind of well-formed evidence is determined
head_is : (e : PlainEvidence) → IsWellFormed e → IsHead (head_for e)
head_is (timeline ranks) h = h.1
head_is (entails a r b walks) h = (h.0, h.1)
head_is (counter a r b ranks) h = (h.0, h.1)
head_is (clash cites walk spares) h = h.0.2

-- ---- timelines and walks

-- the ranks of an interval
exact_at : Exact (Has IsPair (λ p. at_line p ∷ [])) (λ ls. line_at (two_of (codes "at ")) ls)
exact_at = exact_form (pair_line (codes "at ")) IsPair (two_of (codes "at ")) (0, 0) (omega arith, omega arith) (two_form (codes "at "))

-- a timeline
exact_timeline : Exact (Has AreRanks timeline_lines) timeline_at
unfolding timeline_at
exact_timeline = exact_counted (codes "timeline ") at_line IsPair (λ ls. line_at (two_of (codes "at ")) ls) exact_at

-- a step
exact_step : Exact (Has HasNumbers (λ s. step_line s ∷ [])) (λ ls. line_at step_of ls)
exact_step = exact_form step_line HasNumbers step_of (Span 0) (omega arith) step_form

-- a walk
pub exact_walk : Exact (Has AreSteps walk_lines) walk_at
unfolding walk_at
exact_walk = exact_counted (codes "walk ") step_line HasNumbers (λ ls. line_at step_of ls) exact_step

-- ---- what follows the line that names the kind

-- the ranks of this number of intervals, by their lines
abbrev HasRanks : ℕ → List (ℕ × ℕ) → Lines → Type 0
HasRanks n = AreMany IsPair (λ pair. at_line pair ∷ []) n

-- the ranks of a timeline
exact_ranks : (n : ℕ) → IsNumber n → Exact (HasRest (Timeline n)) (rest_at (Timeline n))
unfolding rest_at
exact_ranks n small =
    exact_same (λ e ls. (ranks : List (ℕ × ℕ)) × HasRanks n ranks ls × (e ≡ timeline ranks)) (HasRest (Timeline n)) (λ ls. ranks_at n ls >>= λ ranks. Ok (timeline ranks.0, ranks.1))
    (λ e ls h. let m = h.1 in rw h.2 ((All-from_recursion IsPair h.0 m.0, subst IsNumber (sym m.1) small), ap (λ (k : ℕ). Timeline k) m.1, m.2 ∙ flat_map_single at_line h.0))
    (λ e ls h. from e ls h)
    (exact_map (λ ranks. timeline ranks) (HasRanks n) (ranks_at n) (exact_many IsPair (λ pair. at_line pair ∷ []) (λ rest. line_at (two_of (codes "at ")) rest) exact_at n))
  where
    from : (e : PlainEvidence) (ls : Lines) → HasRest (Timeline n) e ls → (ranks : List (ℕ × ℕ)) × HasRanks n ranks ls × (e ≡ timeline ranks)
    from (timeline ranks) ls h = (ranks, (recursion_from_All IsPair ranks h.0.0, (let k = h.1 in cc), h.2 ∙ sym (flat_map_single at_line ranks)), refl)
    from (entails a r b walks) ls h = absurd (let k = h.1 in cc)
    from (counter a r b ranks) ls h = absurd (let k = h.1 in cc)
    from (clash cites walk spares) ls h = absurd (let k = h.1 in cc)

-- a walk for each order that a relation is, by their lines
abbrev HasWalks : Rel → List (List Step) → Lines → Type 0
HasWalks r = AreMany AreSteps walk_lines (atom_count r)

-- the walks of an entailment
exact_walks : (a : ℕ) (r : Rel) (b : ℕ) → IsNumber a → IsNumber b → Exact (HasRest (Entails a r b)) (rest_at (Entails a r b))
unfolding rest_at
exact_walks a r b small_a small_b =
    exact_same (λ e ls. (walks : List (List Step)) × HasWalks r walks ls × (e ≡ entails a r b walks)) (HasRest (Entails a r b)) (λ ls. many_at walk_at (atom_count r) ls >>= λ walks. Ok (entails a r b walks.0, walks.1))
    (λ e ls h. let m = h.1 in rw h.2 ((small_a, small_b, All-from_recursion AreSteps h.0 m.0, m.1), refl, m.2))
    (λ e ls h. from e ls h)
    (exact_map (λ walks. entails a r b walks) (HasWalks r) (many_at walk_at (atom_count r)) (exact_many AreSteps walk_lines walk_at exact_walk (atom_count r)))
  where
    from : (e : PlainEvidence) (ls : Lines) → HasRest (Entails a r b) e ls → (walks : List (List Step)) × HasWalks r walks ls × (e ≡ entails a r b walks)
    from (timeline ranks) ls h = absurd (let k = h.1 in cc)
    from (entails x q y walks) ls h =
        let k = h.1 in
        let xs : x ≡ a = cc in
        let qs : q ≡ r = cc in
        let ys : y ≡ b = cc in
        (walks, (recursion_from_All AreSteps walks h.0.2, h.0.3 ∙ ap atom_count qs, h.2), λ i. entails (xs i) (qs i) (ys i) walks)
    from (counter x q y ranks) ls h = absurd (let k = h.1 in cc)
    from (clash cites walk spares) ls h = absurd (let k = h.1 in cc)

-- the timeline of a counterexample
exact_counterexample : (a : ℕ) (r : Rel) (b : ℕ) → IsNumber a → IsNumber b → Exact (HasRest (Counter a r b)) (rest_at (Counter a r b))
unfolding rest_at
exact_counterexample a r b small_a small_b =
    exact_same (λ e ls. (ranks : List (ℕ × ℕ)) × Has AreRanks timeline_lines ranks ls × (e ≡ counter a r b ranks)) (HasRest (Counter a r b)) (λ ls. timeline_at ls >>= λ ranks. Ok (counter a r b ranks.0, ranks.1))
    (λ e ls h. let m = h.1 in rw h.2 ((small_a, small_b, m.0), refl, m.1))
    (λ e ls h. from e ls h)
    (exact_map (λ ranks. counter a r b ranks) (Has AreRanks timeline_lines) timeline_at exact_timeline)
  where
    from : (e : PlainEvidence) (ls : Lines) → HasRest (Counter a r b) e ls → (ranks : List (ℕ × ℕ)) × Has AreRanks timeline_lines ranks ls × (e ≡ counter a r b ranks)
    from (timeline ranks) ls h = absurd (let k = h.1 in cc)
    from (entails x q y walks) ls h = absurd (let k = h.1 in cc)
    from (counter x q y ranks) ls h =
        let k = h.1 in
        let xs : x ≡ a = cc in
        let qs : q ≡ r = cc in
        let ys : y ≡ b = cc in
        (ranks, (h.0.2, h.2), λ i. counter (xs i) (qs i) (ys i) ranks)
    from (clash cites walk spares) ls h = absurd (let k = h.1 in cc)

-- the spares of a clash with these cites and this walk
abbrev pub HasSpares : ℕ → List ℕ → List Step → PlainEvidence → Lines → Type 0
HasSpares n cites walk e ls = (spares : List (List (ℕ × ℕ))) × AreMany AreRanks timeline_lines n spares ls × (e ≡ clash cites walk spares)

-- the walk and the spares of a clash with these cites
abbrev pub HasWalkAndSpares : ℕ → List ℕ → PlainEvidence → Lines → Type 0
HasWalkAndSpares n cites = Then (Has AreSteps walk_lines) (HasSpares n cites)

-- a clash of this number of links, by its cites, its walk and its spares
abbrev pub HasClash : ℕ → PlainEvidence → Lines → Type 0
HasClash n = Then (HasCites n) (HasWalkAndSpares n)

-- a clash is well formed, and these are its lines
pub clash_is : (n : ℕ) (e : PlainEvidence) (ls : Lines) → HasClash n e ls → HasRest (Clash n) e ls
clash_is n e ls t =
    let c = t.3 in
    let w = t.4 in
    let s = w.4 in
    let m = s.1 in
    let whole : ls ≡ rest_lines (clash t.0 w.0 s.0) = t.5 ∙ ap (λ (x : Lines). x ++ t.2) c.2 ∙ ap (λ (x : Lines). map cite_line t.0 ++ x) (w.5 ∙ ap (λ (x : Lines). x ++ w.2) w.3.1 ∙ ap (λ (x : Lines). walk_lines w.0 ++ x) m.2) in
    rw s.2 ((c.0, w.3.0, All-from_recursion AreRanks s.0 m.0, m.1 ∙ sym c.1), ap (λ (k : ℕ). Clash k) c.1, whole)

-- a clash has cites, a walk and spares
clash_has : (n : ℕ) (e : PlainEvidence) (ls : Lines) → HasRest (Clash n) e ls → HasClash n e ls
clash_has n (timeline ranks) ls h = absurd (let k = h.1 in cc)
clash_has n (entails a r b walks) ls h = absurd (let k = h.1 in cc)
clash_has n (counter a r b ranks) ls h = absurd (let k = h.1 in cc)
clash_has n (clash cites walk spares) ls h =
    let k = h.1 in
    let len : length cites ≡ n = cc in
    let w = h.0 in
    let timelines : HasSpares n cites walk (clash cites walk spares) (flat_map timeline_lines spares) = (spares, (recursion_from_All AreRanks spares w.2, w.3 ∙ len, refl), refl) in
    (cites, map cite_line cites, walk_lines walk ++ flat_map timeline_lines spares, (w.0, len, refl), (walk, walk_lines walk, flat_map timeline_lines spares, (w.1, refl), timelines, refl), h.2)

-- the spares of a clash
pub exact_spares : (n : ℕ) (cites : List ℕ) (walk : List Step) → Exact (HasSpares n cites walk) (λ ls. many_at timeline_at n ls >>= λ spares. Ok (clash cites walk spares.0, spares.1))
exact_spares n cites walk = exact_map (λ spares. clash cites walk spares) (AreMany AreRanks timeline_lines n) (many_at timeline_at n) (exact_many AreRanks timeline_lines timeline_at exact_timeline n)

-- the walk and the spares of a clash
pub exact_walk_and_spares : (n : ℕ) (cites : List ℕ) → Exact (HasWalkAndSpares n cites) (λ ls. walk_at ls >>= λ walk. many_at timeline_at n walk.1 >>= λ spares. Ok (clash cites walk.0 spares.0, spares.1))
exact_walk_and_spares n cites = exact_then (Has AreSteps walk_lines) (HasSpares n cites) walk_at (λ walk ls. many_at timeline_at n ls >>= λ spares. Ok (clash cites walk spares.0, spares.1)) exact_walk (λ walk prefix g. exact_spares n cites walk)

-- the cites, the walk and the spares of a clash
exact_clash : (n : ℕ) → IsNumber n → Exact (HasRest (Clash n)) (rest_at (Clash n))
unfolding rest_at
exact_clash n small =
    exact_same (HasClash n) (HasRest (Clash n)) (λ ls. cites_at n 0 ls >>= λ cites. walk_at cites.1 >>= λ walk. many_at timeline_at n walk.1 >>= λ spares. Ok (clash cites.0 walk.0 spares.0, spares.1)) (clash_is n) (clash_has n)
    (exact_then (HasCites n) (HasWalkAndSpares n) (cites_at n 0) (λ cites ls. walk_at ls >>= λ walk. many_at timeline_at n walk.1 >>= λ spares. Ok (clash cites walk.0 spares.0, spares.1)) (exact_cites n small) (λ cites prefix g. exact_walk_and_spares n cites))

-- what follows the line that names the kind
exact_rest : (h : EvidenceHead) → IsHead h → Exact (HasRest h) (rest_at h)
exact_rest (Timeline n) h = exact_ranks n h
exact_rest (Entails a r b) h = exact_walks a r b h.0 h.1
exact_rest (Counter a r b) h = exact_counterexample a r b h.0 h.1
exact_rest (Clash n) h = exact_clash n h

-- ---- a body

-- what stands between the first line and the last one
pub exact_body : Exact (Has IsWellFormed body_lines) body_at
unfolding body_at
exact_body =
    exact_same (Then (Has IsHead (λ h. head_line h ∷ [])) HasRest) (Has IsWellFormed body_lines) (λ ls. line_at head_of ls >>= λ head. rest_at head.0 head.1)
    (λ e ls t.
    let r = t.4 in
    (r.0, t.5 ∙ ap (λ (x : Lines). x ++ t.2) t.3.1 ∙ ap (λ (x : Lines). head_line t.0 ∷ x) r.2 ∙ ap (λ (h : EvidenceHead). head_line h ∷ rest_lines e) (sym r.1) ∙ sym (body_is e)))
    (λ e ls h. (head_for e, head_line (head_for e) ∷ [], rest_lines e, (head_is e h.0, refl), (h.0, refl, refl), h.1 ∙ body_is e))
    (exact_then (Has IsHead (λ h. head_line h ∷ [])) HasRest (line_at head_of) rest_at
    (exact_form head_line IsHead head_of (Timeline 0) (omega arith) head_form)
    (λ h prefix g. exact_rest h g.0))
