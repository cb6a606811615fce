-- How long the lines of evidence are.
use Rattle.std.proofs.Common.{◌≡◌, ℕ, ◌+◌, ◌*◌, ◌<◌, ◌≤◌, nat_lt, ◌==◌, ◌%◌, List, [], ◌∷◌, ◌++◌, length, map, codes, decimal, Some, refl, arith}
use Rattle.std.specs.List.{AllByRecursion, concat, flat_map, slice_get}
use Rattle.std.proofs.lemmas.Bool.{ltb-true}
use Rattle.std.proofs.lemmas.Fmt.{length-decimal-le}
use Rattle.std.proofs.lemmas.List.{length-append}
use Rattle.std.proofs.lemmas.Option.{option_and_then_some, slice_get_within}
use Rattle.net_core.specs.Atoms.{atoms_of, before, points_of}
use Rattle.net_core.specs.Bounds.{lower_of, upper_of}
use Rattle.net_core.specs.Limits.{max_points}
use Rattle.net_core.specs.Nets.{IsNet, PlainNet, intervals, lower, upper}
use Rattle.net_core.specs.Rels.{rel_text}
use Rattle.net_core.specs.Steps.{atom_of}
use Rattle.net_core.specs.declared.atom.Atom.{Atom}
use Rattle.net_core.specs.declared.net.NetLink.{NetLink}
use Rattle.net_core.specs.declared.rels.Rel.{Rel}
use Rattle.net_core.specs.declared.step.Step.{Step}
use Rattle.net_core.specs.declared.step.Step.TheVariants.{Link, Span, Calendar}
use Rattle.net_core.proofs.AtomLaws.{atoms_counted, few_orders as few_orders_of}
use Rattle.net_core.proofs.RelLaws.{text_short}
use Rattle.net_core.proofs.StepLaws.{number_within, ordered, tested}
use Rattle.evidence_format.specs.Evidence.{at_line, step_line}
use Rattle.line_texts.specs.Numbers.{one_number, relation_line, two_numbers}
use Rattle.line_texts.specs.Lines.{Lines}

-- ---- lines one after another

-- lines and more lines are as long as both together
pub concat_append : (some more : Lines) → length (concat (some ++ more)) ≡ length (concat some) + length (concat more)
concat_append [] more = omega arith
concat_append (line ∷ some) more = omega (arith, length-append line (concat (some ++ more)), length-append line (concat some), concat_append some more)

-- lines made of each element, of `width` bytes at most
pub concat_flat_map : {X : Type 0} (lines_for : X → Lines) (width : ℕ) (xs : List X) → AllByRecursion (λ x. length (concat (lines_for x)) ≤ width) xs → length (concat (flat_map lines_for xs)) ≤ width * length xs
concat_flat_map lines_for width [] narrow = omega arith
concat_flat_map lines_for width (x ∷ xs) narrow = omega (arith, narrow.0, concat_append (lines_for x) (flat_map lines_for xs), concat_flat_map lines_for width xs narrow.1)

-- a line for each element, of `width` bytes at most
pub concat_map : {X : Type 0} (line_for : X → List ℕ) (width : ℕ) (xs : List X) → AllByRecursion (λ x. length (line_for x) ≤ width) xs → length (concat (map line_for xs)) ≤ width * length xs
concat_map line_for width [] narrow = omega arith
concat_map line_for width (x ∷ xs) narrow = omega (arith, narrow.0, length-append (line_for x) (concat (map line_for xs)), concat_map line_for width xs narrow.1)

-- ---- the lines

-- a number of four digits at most
decimal_size : (n : ℕ) → n < 10000 → length (decimal n) ≤ 4
decimal_size n small = length-decimal-le 4 n (omega arith) (omega arith) (omega arith)

-- a keyword, a number and an LF
pub one_size : (keyword : List ℕ) (n : ℕ) → n < 10000 → length (one_number keyword n) ≤ length keyword + 5
one_size keyword n small =
    let all : length (one_number keyword n) ≡ length (keyword ++ decimal n) + 1 = length-append (keyword ++ decimal n) (codes "\n") in
    omega (arith, decimal_size n small, all, length-append keyword (decimal n))

-- a keyword, two numbers with a space between them, and an LF
two_size : (keyword : List ℕ) (m n : ℕ) → m < 10000 → n < 10000 → length (two_numbers keyword m n) ≤ length keyword + 10
two_size keyword m n lm ln =
    let first = keyword ++ decimal m in
    let all : length (two_numbers keyword m n) ≤ length (first ++ codes " ") + 5 = one_size (first ++ codes " ") n ln in
    let spaced : length (first ++ codes " ") ≡ length first + 1 = length-append first (codes " ") in
    omega (arith, decimal_size m lm, all, spaced, length-append keyword (decimal m))

-- a keyword and a relation between two intervals
pub relation_size : (keyword : List ℕ) (a : ℕ) (r : Rel) (b : ℕ) → a < 10000 → b < 10000 → length (relation_line keyword a r b) ≤ length keyword + 27
relation_size keyword a r b la lb =
    let first = keyword ++ decimal a in
    let second = first ++ codes " " ++ rel_text r in
    let all : length (relation_line keyword a r b) ≤ length (second ++ codes " ") + 5 = one_size (second ++ codes " ") b lb in
    let spaced : length (second ++ codes " ") ≡ length second + 1 = length-append second (codes " ") in
    let named : length second ≡ length (first ++ codes " ") + length (rel_text r) = length-append (first ++ codes " ") (rel_text r) in
    let before : length (first ++ codes " ") ≡ length first + 1 = length-append first (codes " ") in
    omega (arith, decimal_size a la, text_short r, all, spaced, named, before, length-append keyword (decimal a))

-- the ranks of an interval
pub at_size : (pair : ℕ × ℕ) → (pair.0 < max_points) × (pair.1 < max_points) → length (at_line pair) ≤ 13
at_size pair small = omega (arith, two_size (codes "at ") pair.0 pair.1 (omega (arith, small.0)) (omega (arith, small.1)))

-- ---- steps

-- a relation is four orders at most
pub few_orders : (r : Rel) (a b : ℕ) → length (atoms_of a r b) ≤ 4
few_orders r a b = omega (arith, few_orders_of r, atoms_counted r (points_of a) (points_of b))

-- the line of a step that goes by an order
pub step_size : (net : PlainNet) (step : Step) (a : Atom) → IsNet net → atom_of net step ≡ Some a → length (step_line step) ≤ 19
step_size net (Link k i) a is e = option_and_then_some (λ (l : NetLink). slice_get (atoms_of l.a l.rel l.b) i) (slice_get net.links k) a e (λ l at here.
    let few_links = is.few_links in
    let lk = slice_get_within net.links k l at in
    let li = slice_get_within (atoms_of l.a l.rel l.b) i a here in
    let few = few_orders l.rel l.a l.b in
    omega (arith, two_size (codes "via ") k i (omega (arith, lk, few_links)) (omega (arith, li, few))))
step_size net (Span i) a is e =
    let both = tested (nat_lt i (intervals net)) (before (2 * i) (2 * i + 1)) a e in
    let lt = ltb-true i (intervals net) both.0 in
    omega (arith, one_size (codes "span ") i (omega (arith, lt, is.few_intervals)))
step_size net (Calendar p q) a is e =
    let o = ordered (upper net p) (lower net q) p q a e in
    let lp = number_within net p (λ b. upper_of b (p % 2 == 1)) o.0 refl o.2 in
    let lq = number_within net q (λ b. lower_of b (q % 2 == 1)) o.1 refl o.3 in
    omega (arith, two_size (codes "calendar ") p q (omega (arith, lp, is.few_intervals)) (omega (arith, lq, is.few_intervals)))
