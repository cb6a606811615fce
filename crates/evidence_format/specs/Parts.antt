-- Lines that are begun, by the parts of evidence. A part can be begun, and it can be whole.
use Rattle.std.specs.Prelude.{◌≡◌, ℕ, ◌+◌, ◌-◌, ◌<◌, ◌≤◌, ◌⊎◌, ◌↔◌, List, ◌∷◌, ◌++◌, length, map, slice_index, codes}
use Rattle.std.specs.List.{All}
use Rattle.std.specs.List.Sorted.{IsStrictlyIncreasing}
use Rattle.net_core.specs.Atoms.{atom_count}
use Rattle.net_core.specs.declared.rels.Rel.{Rel}
use Rattle.net_core.specs.declared.step.Step.{Step}
use Rattle.line_texts.specs.Lines.{Lines}
use Rattle.evidence_format.specs.Evidence.{AreRanks, AreSteps, AreCites, HasNumbers, IsWellFormed, at_line, timeline_lines, step_line, walk_lines, cite_line, body_lines, first_line}
use Rattle.line_texts.specs.Numbers.{IsNumber, IsPair, one_number, relation_line}
use Rattle.evidence_format.specs.Begun.{IsBegun}
use Rattle.line_texts.specs.Parts.{MayBegin, AreBegunParts, IsBegunText}

-- a timeline of some number of intervals, with the ranks of no more
abbrev pub IsBegunTimeline : Lines → Type 0
IsBegunTimeline ls = (n : ℕ) × (ranks : List (ℕ × ℕ)) × IsNumber n × All IsPair ranks × (length ranks ≤ n) × (ls ≡ one_number (codes "timeline ") n ∷ map at_line ranks)

-- a walk of some number of steps, with no more of them
abbrev pub IsBegunWalk : Lines → Type 0
IsBegunWalk ls = (n : ℕ) × (steps : List Step) × IsNumber n × All HasNumbers steps × (length steps ≤ n) × (ls ≡ one_number (codes "walk ") n ∷ map step_line steps)

-- this number of walks
abbrev pub AreBegunWalks : ℕ → Lines → Type 0
AreBegunWalks n ls = AreBegunParts AreSteps walk_lines IsBegunWalk n ls

-- this number of timelines
abbrev pub AreBegunTimelines : ℕ → Lines → Type 0
AreBegunTimelines n ls = AreBegunParts AreRanks timeline_lines IsBegunTimeline n ls

-- each of the first of this number of cites leaves numbers for those to come after it
abbrev pub LeaveNumbers : ℕ → List ℕ → Type 0
LeaveNumbers n cites = (i : ℕ) → i < length cites → IsNumber (slice_index cites i + (n - (i + 1)))

-- no more than n cites, which rise, and leave numbers for those to come
abbrev pub AreBegunCites : ℕ → Lines → Type 0
AreBegunCites n ls = (cites : List ℕ) × (length cites ≤ n) × IsStrictlyIncreasing cites × LeaveNumbers n cites × (ls ≡ map cite_line cites)

-- n cites, and what may follow them
abbrev pub IsBegunAfterCites : ℕ → (Lines → Type 0) → Lines → Type 0
IsBegunAfterCites n MayFollow ls = (cites : List ℕ) × (rest : Lines) × AreCites cites × (length cites ≡ n) × MayFollow rest × (ls ≡ map cite_line cites ++ rest)

-- a walk, and what may follow it
abbrev pub IsBegunAfterWalk : (Lines → Type 0) → Lines → Type 0
IsBegunAfterWalk MayFollow ls = (walk : List Step) × (rest : Lines) × AreSteps walk × MayFollow rest × (ls ≡ walk_lines walk ++ rest)

-- what stands after the line of a clash: begun cites; all cites, and a walk that may be begun; or all cites, a walk and begun timelines
abbrev pub IsBegunClash : ℕ → Lines → Type 0
IsBegunClash n ls =
    AreBegunCites n ls
    ⊎ IsBegunAfterCites n (λ rest. MayBegin IsBegunWalk rest) ls
    ⊎ IsBegunAfterCites n (λ rest. IsBegunAfterWalk (λ spares. AreBegunTimelines n spares) rest) ls

-- a line with a relation, and what may follow it
abbrev pub IsBegunRelation : List ℕ → (Rel → Lines → Type 0) → Lines → Type 0
IsBegunRelation keyword MayFollow ls = (a : ℕ) × (r : Rel) × (b : ℕ) × (rest : Lines) × IsNumber a × IsNumber b × MayFollow r rest × (ls ≡ relation_line keyword a r b ∷ rest)

-- what stands after the first line: a begun timeline; a relation with begun walks for its orders; a relation with a begun timeline; or a begun clash
abbrev pub IsBegunBody : Lines → Type 0
IsBegunBody ls =
    IsBegunTimeline ls
    ⊎ IsBegunRelation (codes "entails ") (λ r rest. AreBegunWalks (atom_count r) rest) ls
    ⊎ IsBegunRelation (codes "counter ") (λ r rest. MayBegin IsBegunTimeline rest) ls
    ⊎ ((n : ℕ) × (rest : Lines) × IsNumber n × IsBegunClash n rest × (ls ≡ one_number (codes "clash ") n ∷ rest))

-- no line; the first line alone; a begun body after it; or the lines of a whole text
abbrev pub IsBegunByParts : Lines → Type 0
IsBegunByParts ls = IsBegunText IsWellFormed first_line body_lines IsBegunBody ls

-- the law: both say the same
abbrev pub SameBegun : Type 0
SameBegun = (ls : Lines) → IsBegunByParts ls ↔ IsBegun ls
