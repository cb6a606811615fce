-- Lines are begun by their parts exactly where they begin a text.
use Rattle.std.proofs.Common.{◌≡◌, ◌↔◌, inl, inr, ℤ, pos, List, [], ◌++◌, sym, ap, ◌∙◌, arith}
use Rattle.std.specs.Prelude.{codes}
use Rattle.std.proofs.lemmas.List.Elements.{All-from_recursion, All-nil, recursion_from_All}
use Rattle.line_texts.specs.Grammar.{Begins}
use Rattle.line_texts.specs.Lines.{Lines}
use Rattle.line_texts.specs.Parts.{MayBegin}
use Rattle.line_texts.proofs.PartLaws.{count_begins, counted_lines, counted_prefix, text_begins, text_prefix}
use Rattle.line_texts.proofs.ReaderLaws.{AreCounted, Has}
use Rattle.seconds_core.specs.Evidence.{ArePairs, PlainSeconds, Placed, Cycle}
use Rattle.seconds_core.specs.declared.line.Line.TheVariants.{Span}
use Rattle.seconds_format.specs.Begun.{IsBegunSeconds}
use Rattle.seconds_format.specs.Parts.{IsBegunSecondsBody, IsBegunSecondsByParts}
use Rattle.seconds_format.specs.Readers.{seconds_of_pairs}
use Rattle.seconds_format.specs.Texts.{HasLineNumbers, IsLongPair, IsWellFormedSeconds, seconds_at_line, seconds_body_lines, cycle_line, seconds_first_line, pairs_of_seconds}
use Rattle.seconds_format.proofs.PairLaws.{long_again, pairs_again, pairs_length, pairs_long, seconds_length}

-- the pairs of seconds that are well formed are counted by a number
counted_pairs : (seconds : List ℤ) → IsWellFormedSeconds (Placed seconds) → AreCounted IsLongPair (pairs_of_seconds seconds)
counted_pairs seconds h = (All-from_recursion IsLongPair (pairs_of_seconds seconds) (long_again seconds h.1), omega (arith, pairs_length seconds h.0.0, h.0.1))

-- and the seconds of such pairs are well formed
well_formed : (pairs : List (ℤ × ℤ)) → AreCounted IsLongPair pairs → IsWellFormedSeconds (Placed (seconds_of_pairs pairs))
well_formed pairs h =
    let placing : ArePairs (seconds_of_pairs pairs) = (omega (arith, seconds_length pairs), omega (arith, seconds_length pairs, h.1)) in
    (placing, pairs_long pairs (recursion_from_All IsLongPair pairs h.0))

-- the first lines of a body
body_prefix : (e : PlainSeconds) (xs ys : Lines) → IsWellFormedSeconds e → xs ++ ys ≡ seconds_body_lines e → MayBegin IsBegunSecondsBody xs
body_prefix (Placed seconds) xs ys h e = elim (counted_prefix (codes "placing ") seconds_at_line IsLongPair (pairs_of_seconds seconds) xs ys (counted_pairs seconds h) e) [ inl none ↦ inl none | inr begun ↦ inr (inl begun) ]
body_prefix (Cycle lines) xs ys h e = elim (counted_prefix (codes "cycle ") cycle_line HasLineNumbers lines xs ys h e) [ inl none ↦ inl none | inr begun ↦ inr (inr begun) ]

-- a begun body goes on to a whole one
body_begins : (ls : Lines) → IsBegunSecondsBody ls → Begins (Has IsWellFormedSeconds seconds_body_lines) ls
body_begins ls (inl h) =
    let p = count_begins (codes "placing ") seconds_at_line IsLongPair (pos 0, pos 0) (record { sfits = omega arith }, record { sfits = omega arith }) ls h in
    (Placed (seconds_of_pairs p.0), p.1, (well_formed p.0 p.2.0, p.2.1 ∙ ap (λ (pairs : List (ℤ × ℤ)). counted_lines (codes "placing ") seconds_at_line pairs) (sym (pairs_again p.0))))
body_begins ls (inr h) =
    let c = count_begins (codes "cycle ") cycle_line HasLineNumbers (Span 0) (omega arith) ls h in
    (Cycle c.0, c.1, (c.2.0, c.2.1))

-- no lines are a cycle
no_lines : IsWellFormedSeconds (Cycle [])
no_lines = (All-nil HasLineNumbers, omega arith)

-- both definitions of begun lines are one
pub same_begun : (ls : Lines) → IsBegunSecondsByParts ls ↔ IsBegunSeconds ls
same_begun ls = (text_begins IsWellFormedSeconds seconds_first_line seconds_body_lines IsBegunSecondsBody (Cycle []) no_lines body_begins ls, text_prefix IsWellFormedSeconds seconds_first_line seconds_body_lines IsBegunSecondsBody body_prefix ls)
