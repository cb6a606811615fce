-- Lines of a matrix.
use Rattle.std.proofs.Common.{◌≡◌, ℕ, zero, suc, ◌+◌, ◌-◌, ◌*◌, ◌<◌, ◌≤◌, List, [], ◌++◌, Bool, codes, length, get_or, refl, sym, ap, ◌∙◌, arith, append_assoc}
use Rattle.std.specs.List.{flat_map, range_with_len}
use Rattle.std.proofs.lemmas.List.{length-map}
use Rattle.answers.specs.Lines.{name_at}
use Rattle.answers.specs.Names.{AreNames}
use Rattle.answers.proofs.NamedIntervals.{name_there}
use Rattle.net_core.specs.declared.rels.Rel.{Rel}
use Rattle.order_closure.specs.Tables.{Table}
use Rattle.possible_answers.specs.Matrix.{RelTest, TellsTable, lines_from, matrix_lines, pair_line, rel_word, words_of}
use Rattle.tml_possible.specs.Possible.{CanHold, Tells}
use Rattle.tml_possible.specs.Sets.{IsSetOf, has}
use Rattle.tml_possible.specs.declared.base_set.BaseSet.{BaseSet}
use Rattle.tml_possible.proofs.OneList.{one_filter}
use Rattle.tml_refs.specs.Documents.{PlainInterval, interval_name}

-- ---- what is printed of some numbers

module _ (f : ℕ → List ℕ) where
  -- of the next number and of those after it
  pub next_lines : (i n : ℕ) → i < n → flat_map f (range_with_len i (n - i)) ≡ f i ++ flat_map f (range_with_len (i + 1) (n - (i + 1)))
  next_lines i n lt = ap (λ (m : ℕ). flat_map f (range_with_len i m)) (let e : n - i ≡ suc (n - (i + 1)) = omega (arith, lt) in e)

  pub no_lines : (i n : ℕ) → n ≤ i → flat_map f (range_with_len i (n - i)) ≡ []
  no_lines i n past = ap (λ (m : ℕ). flat_map f (range_with_len i m)) (let e : n - i ≡ 0 = omega (arith, past) in e)

-- the same where both say the same of each number
lines_agree : (f g : ℕ → List ℕ) (i m : ℕ) → ((j : ℕ) → i ≤ j → j < i + m → f j ≡ g j) → flat_map f (range_with_len i m) ≡ flat_map g (range_with_len i m)
lines_agree f g i zero same = refl
lines_agree f g i (suc m) same =
    let here = same i (omega arith) (omega arith) in
    let rest = lines_agree f g (i + 1) m (λ j le lt. same j (omega (arith, le)) (omega (arith, lt))) in
    λ k. here k ++ rest k

-- ---- relations that can be

-- tests that tell one property have the same words
pub words_agree : (P : Rel → Type 0) (test other : Rel → Bool) → Tells test P → Tells other P → words_of test ≡ words_of other
words_agree P test other tells too = ap (λ (rels : List Rel). flat_map rel_word rels ++ codes "\n") (one_filter P test other tells too)

-- a set of the relations that have a property tells them
pub set_tells : (P : Rel → Type 0) (set : BaseSet) → IsSetOf P set → Tells (has set) P
set_tells P set is r base = (λ h. ((is r).0 h).1, λ holds. (is r).1 (base, holds))

-- two tests with which the lines of all intervals are the same
pub matrices_agree : (intervals : List PlainInterval) (n : ℕ) (P : ℕ → ℕ → Rel → Type 0) (can other : RelTest)
    → ((a b : ℕ) → a < n → b < n → Tells (λ r. can a r b) (P a b)) → ((a b : ℕ) → a < n → b < n → Tells (λ r. other a r b) (P a b))
    → matrix_lines intervals n can 0 ≡ matrix_lines intervals n other 0
matrices_agree intervals n P can other tells too =
    lines_agree (λ a. lines_from intervals n can a (a + 1)) (λ a. lines_from intervals n other a (a + 1)) 0 (n - 0) (λ a low la.
    lines_agree (pair_line intervals can a) (pair_line intervals other a) (a + 1) (n - (a + 1)) (λ b le lb.
    ap (λ (words : List ℕ). name_at intervals a ++ codes " " ++ name_at intervals b ++ words)
    (words_agree (P a b) (λ r. can a r b) (λ r. other a r b) (tells a b (omega (arith, la)) (omega (arith, la, lb))) (too a b (omega (arith, la)) (omega (arith, la, lb))))))

-- ---- a line more

-- the line of two intervals after the text so far, and what is left
pub line_more : (intervals : List PlainInterval) (can : RelTest) (names : List (List ℕ)) (n : ℕ) (table : Table) (a b : ℕ) (text x y new all : List ℕ) (set : BaseSet)
    → n ≡ length names → AreNames intervals names → TellsTable table can → a < n → b < n → 2 * a + 1 < table.points → 2 * b + 1 < table.points → IsSetOf (λ r. CanHold table a r b) set
    → get_or names a [] ≡ x → get_or names b [] ≡ y → new ≡ text ++ (x ++ codes " " ++ y ++ words_of (has set)) → text ++ lines_from intervals n can a b ≡ all → new ++ lines_from intervals n can a (b + 1) ≡ all
line_more intervals can names n table a b text x y new all set size are tells la lb fa fb is named_x named_y e before =
    let many : length names ≡ length intervals = ap length are ∙ length-map intervals interval_name in
    let first : name_at intervals a ≡ x = name_there intervals a (omega (arith, la, many, size)) ∙ ap (λ (ns : List (List ℕ)). get_or ns a []) (sym are) ∙ named_x in
    let second : name_at intervals b ≡ y = name_there intervals b (omega (arith, lb, many, size)) ∙ ap (λ (ns : List (List ℕ)). get_or ns b []) (sym are) ∙ named_y in
    let words = words_agree (λ r. CanHold table a r b) (has set) (λ r. can a r b) (set_tells (λ r. CanHold table a r b) set is) (tells a b fa fb) in
    let line : pair_line intervals can a b ≡ x ++ codes " " ++ y ++ words_of (has set) = (λ k. first k ++ codes " " ++ second k ++ sym words k) in
    let left = lines_from intervals n can a (b + 1) in
    ap (λ (t : List ℕ). t ++ left) (e ∙ ap (λ (l : List ℕ). text ++ l) (sym line))
    ∙ append_assoc text (pair_line intervals can a b) left
    ∙ ap (λ (l : List ℕ). text ++ l) (sym (next_lines (pair_line intervals can a) b n lb))
    ∙ before
