-- Evidence as a plain value, and its one text.
use Rattle.std.specs.Prelude.{◌≡◌, ℕ, List, [], ◌∷◌, ◌++◌, length, map, codes}
use Rattle.std.specs.List.{All, concat, flat_map}
use Rattle.std.specs.List.Sorted.{IsStrictlyIncreasing}
use Rattle.net_core.specs.Atoms.{atom_count}
use Rattle.net_core.specs.declared.rels.Rel.{Rel}
use Rattle.net_core.specs.declared.step.Step.{Step}
use Rattle.net_core.specs.declared.step.Step.TheVariants.{Link, Span, Calendar}
use Rattle.line_texts.specs.Lines.{Lines, last_line}
use Rattle.line_texts.specs.Numbers.{IsNumber, IsPair, one_number, two_numbers, relation_line}

-- What a file is evidence of.
pub data PlainEvidence : Type 0 where
  -- a timeline, by the ranks of the start and the end of each interval
  timeline : List (ℕ × ℕ) → PlainEvidence
  -- a relation between two intervals that holds in every timeline that fits, by a walk for each order that it is
  entails : ℕ → Rel → ℕ → List (List Step) → PlainEvidence
  -- such a relation that fails in one of them, by the ranks of that one
  counter : ℕ → Rel → ℕ → List (ℕ × ℕ) → PlainEvidence
  -- links that cannot all be true, by their numbers, the cites, by a closed walk over them, and by a spare for each of them: the ranks of a timeline in which the others hold
  clash : List ℕ → List Step → List (List (ℕ × ℕ)) → PlainEvidence

-- the ranks, and the number of intervals, can stand in a text
abbrev pub AreRanks : List (ℕ × ℕ) → Type 0
AreRanks ranks = All IsPair ranks × IsNumber (length ranks)

abbrev pub HasNumbers : Step → Type 0
HasNumbers (Link link atom) = IsNumber link × IsNumber atom
HasNumbers (Span i) = IsNumber i
HasNumbers (Calendar p q) = IsNumber p × IsNumber q

-- the numbers of the steps, and how many there are, can stand in a text
abbrev pub AreSteps : List Step → Type 0
AreSteps steps = All HasNumbers steps × IsNumber (length steps)

-- the numbers of links rise, and they and how many there are can stand in a text
abbrev pub AreCites : List ℕ → Type 0
AreCites cites = IsStrictlyIncreasing cites × All IsNumber cites × IsNumber (length cites)

-- All numbers can stand in a text; a relation has one walk for each order that it is, and a clash one spare for each of its cites, which rise.
abbrev pub IsWellFormed : PlainEvidence → Type 0
IsWellFormed (timeline ranks) = AreRanks ranks
IsWellFormed (entails a r b walks) = IsNumber a × IsNumber b × All AreSteps walks × (length walks ≡ atom_count r)
IsWellFormed (counter a r b ranks) = IsNumber a × IsNumber b × AreRanks ranks
IsWellFormed (clash cites walk spares) = AreCites cites × AreSteps walk × All AreRanks spares × (length spares ≡ length cites)

abbrev pub at_line : ℕ × ℕ → List ℕ
at_line pair = two_numbers (codes "at ") pair.0 pair.1

-- how many intervals there are, and the ranks of each
abbrev pub timeline_lines : List (ℕ × ℕ) → Lines
timeline_lines ranks = one_number (codes "timeline ") (length ranks) ∷ map at_line ranks

abbrev pub step_line : Step → List ℕ
step_line (Link link atom) = two_numbers (codes "via ") link atom
step_line (Span i) = one_number (codes "span ") i
step_line (Calendar p q) = two_numbers (codes "calendar ") p q

-- how many steps there are, and each of them
abbrev pub walk_lines : List Step → Lines
walk_lines steps = one_number (codes "walk ") (length steps) ∷ map step_line steps

abbrev pub cite_line : ℕ → List ℕ
cite_line link = one_number (codes "cite ") link

abbrev pub body_lines : PlainEvidence → Lines
body_lines (timeline ranks) = timeline_lines ranks
body_lines (entails a r b walks) = relation_line (codes "entails ") a r b ∷ flat_map walk_lines walks
body_lines (counter a r b ranks) = relation_line (codes "counter ") a r b ∷ timeline_lines ranks
body_lines (clash cites walk spares) = one_number (codes "clash ") (length cites) ∷ (map cite_line cites ++ (walk_lines walk ++ flat_map timeline_lines spares))

abbrev pub first_line : List ℕ
first_line = codes "tml-evidence 1\n"

abbrev pub text_lines : PlainEvidence → Lines
text_lines e = first_line ∷ (body_lines e ++ last_line ∷ [])

-- the text of well-formed evidence
abbrev pub IsText : PlainEvidence → List ℕ → Type 0
IsText e text = IsWellFormed e × (text ≡ concat (text_lines e))
