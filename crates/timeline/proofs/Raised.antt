-- Ranks that the points raise in their turns.
use Rattle.std.proofs.Common.{◌≡◌, ◌≢◌, ◌⊎◌, ℕ, ◌+◌, ◌/◌, ◌%◌, ◌<◌, ◌≤◌, max, List, get_or, ap, subst, ◌∙◌, arith, inl, inr}
use Rattle.std.proofs.lemmas.Bool.{cases_lt, cases_eq}
use Rattle.std.proofs.lemmas.Nat.Bits.{bit_at-lt}
use Rattle.order_closure.specs.Bits.{AreBitsOf, bit_of}
use Rattle.order_closure.specs.Counting.{before_count}
use Rattle.order_closure.specs.Tables.{AreClosed}
use Rattle.order_closure.specs.declared.cell.Cell.{Cell}
use Rattle.order_closure.specs.declared.cell.Cell.TheVariants.{Strict}
use Rattle.order_closure.proofs.Ranking.{fewer_before}
use Rattle.timeline.specs.Ranking.{AreRanksOfCells, raised}
use Rattle.timeline.proofs.Turns.{AreTurns, more_after}

-- the ranks of the points after p are raised above that of p, and the others are as they were
abbrev pub AreRaised : ℕ → (ℕ → ℕ → Cell) → ℕ → (ℕ → ℕ) → (ℕ → ℕ) → Type 0
AreRaised n cell p old new = (q : ℕ) → q < n → ((cell p q ≡ Strict) × (new q ≡ max (old q) (old p + 1))) ⊎ ((cell p q ≢ Strict) × (new q ≡ old q))

-- a bit that is set is that of a point
pub bit_below : (n : ℕ) (P : ℕ → Type 0) (row : List ℕ) → AreBitsOf n P row → (q : ℕ) → bit_of row q ≡ 1 → q < n
bit_below n P row bits q is = elim (cases_lt q n) [
  | inl lt ↦ lt
  | inr past ↦ absurd (omega (arith, bits.tail q past))
]

-- ranks that are raised by the bits of the points after p
pub raised_by_bits : (n : ℕ) (cell : ℕ → ℕ → Cell) (p : ℕ) (old new : ℕ → ℕ) (row : List ℕ) → AreBitsOf n (λ q. cell p q ≡ Strict) row
    → ((q : ℕ) → new q ≡ raised (bit_of row q) (old p + 1) (old q)) → AreRaised n cell p old new
raised_by_bits n cell p old new row bits is q lq = elim (cases_eq (bit_of row q) 1) [
  | inl e ↦ inl ((bits.set q lq).0 e, is q ∙ ap (λ b. raised b (old p + 1) (old q)) e)
  | inr ne ↦
      let zero_bit : bit_of row q ≡ 0 = omega (arith, bit_at-lt (get_or row (q / 64) 0) (q % 64), ne) in
      inr (λ s. ne ((bits.set q lq).1 s), is q ∙ ap (λ b. raised b (old p + 1) (old q)) zero_bit)
]

-- a number is the least above the ranks of the points before q that had one of the first k turns
pub record IsRankSoFar (cell : ℕ → ℕ → Cell) (point : ℕ → ℕ) (k : ℕ) (t : ℕ → ℕ) (q : ℕ) : Type 0 where
  pub above : (j : ℕ) → j < k → cell (point j) q ≡ Strict → t (point j) < t q
  pub least : (m : ℕ) → ((j : ℕ) → j < k → cell (point j) q ≡ Strict → t (point j) < m) → t q ≤ m

-- the ranks after k turns; none is above the number of points before
pub record AreRankedTo (n : ℕ) (cell : ℕ → ℕ → Cell) (point : ℕ → ℕ) (k : ℕ) (t : ℕ → ℕ) : Type 0 where
  pub each : (q : ℕ) → q < n → IsRankSoFar cell point k t q
  pub small : (q : ℕ) → q < n → t q ≤ before_count n cell q

module _ (n : ℕ) (cell : ℕ → ℕ → Cell) (m : ℕ) (point : ℕ → ℕ) (closed : AreClosed n cell) (turns : AreTurns n cell m point) where
  -- at first all ranks are 0
  pub ranked_none : (t : ℕ → ℕ) → ((q : ℕ) → t q ≡ 0) → AreRankedTo n cell point 0 t
  ranked_none t none = record {
    each = λ q lq. record { above = λ j lj s. absurd (omega arith); least = λ b each. omega (arith, none q) };
    small = λ q lq. omega (arith, none q);
  }

  module _ (k : ℕ) (old new : ℕ → ℕ) (lk : k < m) (is : AreRaised n cell (point k) old new) where
    -- the points that had their turn keep their ranks
    stays : (j : ℕ) → j ≤ k → new (point j) ≡ old (point j)
    stays j le =
        let lp = turns.inside k lk in
        let lj = turns.inside j (omega arith) in
        let order = turns.falls j k le lk in
        elim (is (point j) lj) [
          | inl both ↦ absurd (omega (arith, more_after n cell closed (point k) (point j) lp lj both.0, order))
          | inr both ↦ both.1
        ]

    -- no rank falls
    grows : (q : ℕ) → q < n → old q ≤ new q
    grows q lq = elim (is q lq) [
      | inl both ↦ let e = both.1 in omega arith
      | inr both ↦ let e = both.1 in omega arith
    ]

    -- the rank of a point after the one whose turn it is
    above_this : (q : ℕ) → q < n → cell (point k) q ≡ Strict → new (point k) < new q
    above_this q lq s =
        let same = stays k (omega arith) in
        elim (is q lq) [
          | inl both ↦ let e = both.1 in omega arith
          | inr both ↦ absurd (both.0 s)
        ]

    more : (q : ℕ) → q < n → IsRankSoFar cell point k old q → IsRankSoFar cell point (k + 1) new q
    more q lq had = record {
      above = λ j lj s. elim (cases_lt j k) [
        | inl lt ↦ let before = had.above j lt s in let same = stays j (omega arith) in let up = grows q lq in omega arith
        | inr ge ↦
            let e : k ≡ j = omega arith in
            subst (λ (i : ℕ). cell (point i) q ≡ Strict → new (point i) < new q) e (above_this q lq) s
      ];
      least = λ b each.
          let bound : old q ≤ b = had.least b (λ j lj s. let same = stays j (omega arith) in let lt = each j (omega arith) s in omega arith) in
          elim (is q lq) [
            | inl both ↦ let e = both.1 in let same = stays k (omega arith) in let lt = each k (omega arith) both.0 in omega arith
            | inr both ↦ let e = both.1 in omega arith
          ];
    }

    -- one turn more
    pub ranked_more : AreRankedTo n cell point k old → AreRankedTo n cell point (k + 1) new
    ranked_more had = record {
      each = λ q lq. more q lq (had.each q lq);
      small = λ q lq.
          let lp = turns.inside k lk in
          let this = had.small q lq in
          let first = had.small (point k) lp in
          elim (is q lq) [
            | inl both ↦ let e = both.1 in omega (arith, fewer_before n cell closed (point k) q lp lq both.0)
            | inr both ↦ let e = both.1 in omega arith
          ];
    }

  -- after all turns each point has its rank
  pub all_ranked : (ranks : List ℕ) → AreRankedTo n cell point m (λ q. get_or ranks q 0) → AreRanksOfCells n cell ranks
  all_ranked ranks had p lp =
      let this = had.each p lp in
      record {
        above = λ r lr s.
            let found = turns.whole r lr in
            subst (λ (q : ℕ). cell q p ≡ Strict → get_or ranks q 0 < get_or ranks p 0) found.2 (this.above found.0 found.1) s;
        least = λ b each. this.least b (λ j lj s. each (point j) (turns.inside j lj) s);
      }
