-- The readers of placings and cycles are exact.
use Rattle.std.proofs.Common.{◌≡◌, ℕ, ℤ, pos, List, [], ◌∷◌, ◌++◌, length, map, Ok, refl, sym, ap, subst, ◌∙◌, arith}
use Rattle.std.proofs.lemmas.List.Concat.{flat_map_single}
use Rattle.std.proofs.lemmas.List.Elements.{All-from_recursion, recursion_from_All}
use Rattle.line_texts.specs.Numbers.{IsNumber}
use Rattle.line_texts.specs.Grammar.{Then}
use Rattle.line_texts.specs.Lines.{Lines}
use Rattle.line_texts.specs.Reading.{Read, ◌>>=◌, line_at}
use Rattle.line_texts.specs.Words.{same_of}
use Rattle.line_texts.proofs.Exact.{Exact, all_of, exact_same, exact_then}
use Rattle.line_texts.proofs.ReaderLaws.{AreMany, Has, exact_form, exact_many, exact_map}
use Rattle.line_texts.proofs.TextLaws.{closed, ends_after, exact_between}
use Rattle.seconds_core.specs.Evidence.{ArePairs, PlainSeconds, Placed, Cycle}
use Rattle.seconds_core.specs.declared.line.Line.{Line}
use Rattle.seconds_core.specs.declared.line.Line.TheVariants.{Span}
use Rattle.seconds_format.specs.declared.head.SecondsHead.{SecondsHead}
use Rattle.seconds_format.specs.declared.head.SecondsHead.TheVariants as head
use Rattle.seconds_format.specs.Begun.{HasSecondsLines}
use Rattle.seconds_format.specs.Forms.{cycle_line_of, head_of}
use Rattle.seconds_format.specs.Readers.{body_at, cycle_at, pairs_at, rest_at, seconds_at, seconds_of_pairs}
use Rattle.seconds_format.specs.Texts.{HasLineNumbers, IsLongPair, IsWellFormedSeconds, seconds_at_line, seconds_body_lines, cycle_line, seconds_first_line, pairs_of_seconds}
use Rattle.seconds_format.specs.Words.{pair_of}
use Rattle.seconds_format.proofs.FormLaws.{IsHead, cycle_line_form, head_form, head_line}
use Rattle.seconds_format.proofs.PairLaws.{long_again, pairs_again, pairs_length, pairs_long, seconds_again, seconds_length}
use Rattle.seconds_format.proofs.SecondLaws.{pair_form}

-- the kind of evidence
abbrev head_for : PlainSeconds → SecondsHead
head_for (Placed seconds) = head.Placing (length (pairs_of_seconds seconds))
head_for (Cycle lines) = head.Cycle (length lines)

-- the lines that follow the one that names the kind
abbrev rest_lines : PlainSeconds → Lines
rest_lines (Placed seconds) = map seconds_at_line (pairs_of_seconds seconds)
rest_lines (Cycle lines) = map cycle_line lines

-- evidence of a kind, by those lines
abbrev HasRest : SecondsHead → PlainSeconds → Lines → Type 0
HasRest h e ls = IsWellFormedSeconds e × (head_for e ≡ h) × (ls ≡ rest_lines e)

-- the body is the line that names the kind, and those that follow it
body_is : (e : PlainSeconds) → seconds_body_lines e ≡ head_line (head_for e) ∷ rest_lines e
body_is (Placed seconds) = refl
body_is (Cycle lines) = refl

-- the number of the kind of well-formed evidence can stand in a text
head_is : (e : PlainSeconds) → IsWellFormedSeconds e → IsHead (head_for e)
head_is (Placed seconds) h = omega (arith, pairs_length seconds h.0.0, h.0.1)
head_is (Cycle lines) h = h.1

-- ---- placings

-- the seconds of this number of intervals, by their lines
abbrev HasPairs : ℕ → List (ℤ × ℤ) → Lines → Type 0
HasPairs n = AreMany IsLongPair (λ pair. seconds_at_line pair ∷ []) n

-- the seconds of an interval
exact_pair : Exact (Has IsLongPair (λ pair. seconds_at_line pair ∷ [])) (λ rest. line_at pair_of rest)
exact_pair = exact_form seconds_at_line IsLongPair pair_of (pos 0, pos 0) (record { sfits = omega arith }, record { sfits = omega arith }) pair_form

-- the seconds of this number of intervals are a placing
exact_placing : (n : ℕ) → IsNumber n → Exact (HasRest (head.Placing n)) (rest_at (head.Placing n))
unfolding rest_at
exact_placing n small =
    exact_same (λ e ls. (pairs : List (ℤ × ℤ)) × HasPairs n pairs ls × (e ≡ Placed (seconds_of_pairs pairs))) (HasRest (head.Placing n)) (λ ls. pairs_at n ls >>= λ pairs. Ok (Placed (seconds_of_pairs pairs.0), pairs.1))
    (λ e ls h.
    let m = h.1 in
    let size = seconds_length h.0 in
    let placing : ArePairs (seconds_of_pairs h.0) = (omega (arith, size), omega (arith, size, m.1, small)) in
    let pairs = pairs_again h.0 in
    rw h.2 ((placing, pairs_long h.0 m.0), ap (λ (ps : List (ℤ × ℤ)). head.Placing (length ps)) pairs ∙ ap (λ (k : ℕ). head.Placing k) m.1, m.2 ∙ flat_map_single seconds_at_line h.0 ∙ ap (λ (ps : List (ℤ × ℤ)). map seconds_at_line ps) (sym pairs)))
    (λ e ls h. from e ls h)
    (exact_map (λ pairs. Placed (seconds_of_pairs pairs)) (HasPairs n) (pairs_at n) (exact_many IsLongPair (λ pair. seconds_at_line pair ∷ []) (λ rest. line_at pair_of rest) exact_pair n))
  where
    from : (e : PlainSeconds) (ls : Lines) → HasRest (head.Placing n) e ls → (pairs : List (ℤ × ℤ)) × HasPairs n pairs ls × (e ≡ Placed (seconds_of_pairs pairs))
    from (Placed seconds) ls h = (pairs_of_seconds seconds, (long_again seconds h.0.1, (let k = h.1 in cc), h.2 ∙ sym (flat_map_single seconds_at_line (pairs_of_seconds seconds))), ap (λ (more : List ℤ). Placed more) (sym (seconds_again seconds h.0.0.0)))
    from (Cycle lines) ls h = absurd (let k = h.1 in cc)

-- ---- cycles

-- this number of lines of a cycle
abbrev HasCycle : ℕ → List Line → Lines → Type 0
HasCycle n = AreMany HasLineNumbers (λ line. cycle_line line ∷ []) n

-- a line of a cycle
exact_cycle_line : Exact (Has HasLineNumbers (λ line. cycle_line line ∷ [])) (λ rest. line_at cycle_line_of rest)
exact_cycle_line = exact_form cycle_line HasLineNumbers cycle_line_of (Span 0) (omega arith) cycle_line_form

-- this number of lines are a cycle
exact_cycle : (n : ℕ) → IsNumber n → Exact (HasRest (head.Cycle n)) (rest_at (head.Cycle n))
unfolding rest_at
exact_cycle n small =
    exact_same (λ e ls. (lines : List Line) × HasCycle n lines ls × (e ≡ Cycle lines)) (HasRest (head.Cycle n)) (λ ls. cycle_at n ls >>= λ lines. Ok (Cycle lines.0, lines.1))
    (λ e ls h. let m = h.1 in rw h.2 ((All-from_recursion HasLineNumbers h.0 m.0, subst IsNumber (sym m.1) small), ap (λ (k : ℕ). head.Cycle k) m.1, m.2 ∙ flat_map_single cycle_line h.0))
    (λ e ls h. from e ls h)
    (exact_map (λ lines. Cycle lines) (HasCycle n) (cycle_at n) (exact_many HasLineNumbers (λ line. cycle_line line ∷ []) (λ rest. line_at cycle_line_of rest) exact_cycle_line n))
  where
    from : (e : PlainSeconds) (ls : Lines) → HasRest (head.Cycle n) e ls → (lines : List Line) × HasCycle n lines ls × (e ≡ Cycle lines)
    from (Placed seconds) ls h = absurd (let k = h.1 in cc)
    from (Cycle lines) ls h = (lines, (recursion_from_All HasLineNumbers lines h.0.0, (let k = h.1 in cc), h.2 ∙ sym (flat_map_single cycle_line lines)), refl)

-- ---- a body, and a text

-- what follows the line that names the kind
exact_rest : (h : SecondsHead) → IsHead h → Exact (HasRest h) (rest_at h)
exact_rest (head.Placing n) h = exact_placing n h
exact_rest (head.Cycle n) h = exact_cycle n h

-- what stands between the first line and the last one
exact_body : Exact (Has IsWellFormedSeconds seconds_body_lines) body_at
unfolding body_at
exact_body =
    exact_same (Then (Has IsHead (λ h. head_line h ∷ [])) HasRest) (Has IsWellFormedSeconds seconds_body_lines) (λ ls. line_at head_of ls >>= λ head. rest_at head.0 head.1)
    (λ e ls t.
    let r = t.4 in
    (r.0, t.5 ∙ ap (λ (x : Lines). x ++ t.2) t.3.1 ∙ ap (λ (x : Lines). head_line t.0 ∷ x) r.2 ∙ ap (λ (h : SecondsHead). head_line h ∷ rest_lines e) (sym r.1) ∙ sym (body_is e)))
    (λ e ls h. (head_for e, head_line (head_for e) ∷ [], rest_lines e, (head_is e h.0, refl), (h.0, refl, refl), h.1 ∙ body_is e))
    (exact_then (Has IsHead (λ h. head_line h ∷ [])) HasRest (line_at head_of) rest_at
    (exact_form head_line IsHead head_of (head.Cycle 0) (omega arith) head_form)
    (λ h prefix g. exact_rest h g.0))

-- evidence from its first line to its last one
abbrev pub text_at : Lines → Read PlainSeconds
text_at ls = line_at (same_of seconds_first_line) ls >>= λ first. closed (body_at first.1)

-- it is read exactly
pub exact_text : Exact HasSecondsLines text_at
exact_text = exact_between seconds_first_line IsWellFormedSeconds seconds_body_lines body_at exact_body

-- reading a text is reading all its lines
pub seconds_is : (ls : Lines) → seconds_at ls ≡ all_of text_at ls
unfolding seconds_at
seconds_is ls = ends_after (line_at (same_of seconds_first_line) ls) (λ u rest. body_at rest)
