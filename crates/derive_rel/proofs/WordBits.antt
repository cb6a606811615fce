-- What bits say of the cells of two intervals.
use Rattle.std.proofs.Common.{◌≡◌, ◌≢◌, ◌↔◌, ◌||◌, ℕ, zero, suc, ◌+◌, ◌*◌, ◌/◌, ◌%◌, ◌<◌, Bool, true, false, List, get_or, refl, ap, ◌∙◌, arith}
use Rattle.std.specs.Prelude.{◌==◌, bit_or, max}
use Rattle.std.specs.Int.{bit_at}
use Rattle.std.proofs.lemmas.Nat.Bits.{bit_at-lt, bit_at_or}
use Rattle.order_closure.specs.Bits.{AreBitsOf, bit_of}
use Rattle.order_closure.specs.Tables.{Table, cell_at}
use Rattle.order_closure.specs.declared.cell.Cell.{Cell}
use Rattle.order_closure.specs.declared.cell.Cell.TheVariants.{Free, Weak, Strict}
use Rattle.derive_rel.specs.Pairs.{gives, says_some}

-- a cell gives some order exactly where its bit is set
bit_gives : (x : Cell) (n : ℕ) → n < 2 → ((n ≡ 1) ↔ (x ≢ Free)) → (n == 1) ≡ gives x false
bit_gives Free zero small set = refl
bit_gives Free (suc zero) small set = absurd (set.0 refl refl)
bit_gives Free (suc (suc n)) small set = absurd (omega arith)
bit_gives Weak zero small set = absurd (let e : 0 ≡ 1 = set.1 (λ e. cc) in omega (arith, e))
bit_gives Weak (suc zero) small set = refl
bit_gives Weak (suc (suc n)) small set = absurd (omega arith)
bit_gives Strict zero small set = absurd (let e : 0 ≡ 1 = set.1 (λ e. cc) in omega (arith, e))
bit_gives Strict (suc zero) small set = refl
bit_gives Strict (suc (suc n)) small set = absurd (omega arith)

-- the larger of two bits is set where one of them is
larger : (m n : ℕ) → m < 2 → n < 2 → (max m n == 1) ≡ (m == 1 || n == 1)
larger zero zero p q = refl
larger zero (suc zero) p q = refl
larger (suc zero) zero p q = refl
larger (suc zero) (suc zero) p q = refl
larger (suc (suc m)) n p q = absurd (omega arith)
larger m (suc (suc n)) p q = absurd (omega arith)

-- four tests in another order
regroup : (p q r s : Bool) → ((p || r) || (q || s)) ≡ (p || q || r || s)
regroup true q r s = refl
regroup false true true s = refl
regroup false true false s = refl
regroup false false true s = refl
regroup false false false s = refl

module _ (table : Table) (x y : ℕ) (start finish : List ℕ)
    (of_start : AreBitsOf table.points (λ (j : ℕ). cell_at table x j ≢ Free) start)
    (of_finish : AreBitsOf table.points (λ (j : ℕ). cell_at table y j ≢ Free) finish) where
  -- a bit of both rows joined is set where one of their cells gives an order
  both_give : (j : ℕ) → j < table.points → (bit_at (bit_or (get_or start (j / 64) 0) (get_or finish (j / 64) 0)) (j % 64) == 1) ≡ (gives (cell_at table x j) false || gives (cell_at table y j) false)
  both_give j lt =
      let m = bit_of start j in
      let n = bit_of finish j in
      let m_small : m < 2 = bit_at-lt (get_or start (j / 64) 0) (j % 64) in
      let n_small : n < 2 = bit_at-lt (get_or finish (j / 64) 0) (j % 64) in
      let joined : (bit_at (bit_or (get_or start (j / 64) 0) (get_or finish (j / 64) 0)) (j % 64) == 1) ≡ (max m n == 1) = ap (λ (k : ℕ). k == 1) (bit_at_or (get_or start (j / 64) 0) (get_or finish (j / 64) 0) (j % 64)) in
      let first = bit_gives (cell_at table x j) m m_small (of_start.set j lt) in
      let second = bit_gives (cell_at table y j) n n_small (of_finish.set j lt) in
      joined ∙ larger m n m_small n_small ∙ ap (λ (t : Bool). t || n == 1) first ∙ ap (λ (t : Bool). gives (cell_at table x j) false || t) second

-- the bits of two points in one word say whether some cell gives an order
pub says_word : (table : Table) (a b : ℕ) (start finish : List ℕ)
    → AreBitsOf table.points (λ (j : ℕ). cell_at table (2 * a) j ≢ Free) start → AreBitsOf table.points (λ (j : ℕ). cell_at table (2 * a + 1) j ≢ Free) finish
    → 2 * b + 1 < table.points → (word : ℕ) → word ≡ bit_or (get_or start (2 * b / 64) 0) (get_or finish (2 * b / 64) 0)
    → (bit_at word (2 * b % 64) == 1 || bit_at word (2 * b % 64 + 1) == 1) ≡ says_some (cell_at table) a b
says_word table a b start finish of_start of_finish lt word is =
    let cell = cell_at table in
    let next : (2 * b + 1) / 64 ≡ 2 * b / 64 = omega arith in
    let after : (2 * b + 1) % 64 ≡ 2 * b % 64 + 1 = omega arith in
    let first = both_give table (2 * a) (2 * a + 1) start finish of_start of_finish (2 * b) (omega arith) in
    let second = both_give table (2 * a) (2 * a + 1) start finish of_start of_finish (2 * b + 1) lt in
    let one : (bit_at word (2 * b % 64) == 1) ≡ (gives (cell (2 * a) (2 * b)) false || gives (cell (2 * a + 1) (2 * b)) false) = rw is first in
    let two : (bit_at word (2 * b % 64 + 1) == 1) ≡ (gives (cell (2 * a) (2 * b + 1)) false || gives (cell (2 * a + 1) (2 * b + 1)) false) = rw is (rw (← next, ← after) second) in
    ap (λ (t : Bool). t || bit_at word (2 * b % 64 + 1) == 1) one
    ∙ ap (λ (t : Bool). (gives (cell (2 * a) (2 * b)) false || gives (cell (2 * a + 1) (2 * b)) false) || t) two
    ∙ regroup (gives (cell (2 * a) (2 * b)) false) (gives (cell (2 * a) (2 * b + 1)) false) (gives (cell (2 * a + 1) (2 * b)) false) (gives (cell (2 * a + 1) (2 * b + 1)) false)
