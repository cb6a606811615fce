-- A closed table has least ranks, also where an atom is to be false that none of its cells says.
use Rattle.std.proofs.Common.{◌≡◌, ◌↔◌, ℕ, zero, suc, ◌<◌, ◌≤◌, max, Bool, true, false, cond, List, length, map, refl, sym, ap, ◌∙◌, arith, inl, inr, le_antisymm}
use Rattle.std.specs.List.{range_with_len}
use Rattle.std.proofs.lemmas.Bool.{cases_lt}
use Rattle.std.proofs.lemmas.Grind.{same_number_lists}
use Rattle.std.proofs.lemmas.List.FromFn.{get_or-map-range_with_len, length-map-range_with_len}
use Rattle.net_core.specs.Atoms.{Satisfies}
use Rattle.net_core.specs.Least.{AreLeast, IsLeast}
use Rattle.net_core.specs.Ranks.{timeline_of}
use Rattle.net_core.specs.Relations.{Timeline}
use Rattle.net_core.specs.declared.atom.Atom.{Atom}
use Rattle.order_closure.specs.Cells.{order, strength, stronger}
use Rattle.order_closure.specs.Counting.{before_count, is_strict}
use Rattle.order_closure.specs.Tables.{AreClosed, AreCellsKept, way}
use Rattle.order_closure.specs.Timelines.{opposite}
use Rattle.order_closure.specs.declared.cell.Cell.{Cell}
use Rattle.order_closure.specs.declared.cell.Cell.TheVariants.{Strict}
use Rattle.order_closure.proofs.Raising.{raised_closed, raised_kept}
use Rattle.order_closure.proofs.Ranking.{count_below_n, fewer_before, is_strict_at, not_both, not_is, opposite_fits, ranks_kept, ranks_least, ranks_small}

-- ---- the highest of some values

-- the highest value below k at which a test holds
highest : (ℕ → Bool) → (ℕ → ℕ) → ℕ → ℕ
highest test value zero = 0
highest test value (suc k) = max (cond (test k) (value k) 0) (highest test value k)

reached : (test : ℕ → Bool) (value : ℕ → ℕ) (k r : ℕ) → r < k → test r ≡ true → value r ≤ highest test value k
unfolding highest
reached test value zero r lt e = absurd (omega arith)
reached test value (suc k) r lt e = elim (cases_lt r k) [
  | inl less ↦ let rest = reached test value k r less e in omega arith
  | inr ge ↦
      let same : r ≡ k = omega arith in
      let here : cond (test k) (value k) 0 ≡ value r = ap (λ (j : ℕ). cond (test j) (value j) 0) (sym same) ∙ ap (λ (b : Bool). cond b (value r) 0) e in
      omega arith
]

not_passed : (test : ℕ → Bool) (value : ℕ → ℕ) (k m : ℕ) → ((r : ℕ) → r < k → test r ≡ true → value r ≤ m) → highest test value k ≤ m
unfolding highest
not_passed test value zero m below = omega arith
not_passed test value (suc k) m below =
    let rest = not_passed test value k m (λ r lt. below r (omega arith)) in
    let here : cond (test k) (value k) 0 ≤ m = by (test k) refl in
    omega arith
  where
    by : (b : Bool) → test k ≡ b → cond b (value k) 0 ≤ m
    by true e = below k (omega arith) e
    by false e = omega arith

-- ---- ranks

-- the same as far as n points are seen
kept_below : (n : ℕ) (cell : ℕ → ℕ → Cell) (t u : Timeline) → ((p : ℕ) → p < n → t p ≡ u p) → AreCellsKept n cell t → AreCellsKept n cell u
kept_below n cell t u same kept i j li lj = rw (← same i li, ← same j lj) (kept i j li lj)

-- the least timeline of two properties that say the same
pub same_least : (n : ℕ) (P Q : Timeline → Type 0) (t : Timeline) → ((u : Timeline) → P u ↔ Q u) → IsLeast n P t → IsLeast n Q t
same_least n P Q t same h = record {
  holds = (same t).0 h.holds;
  least = λ u q. h.least u ((same u).1 q);
}

-- the same of ranks
pub same_ranks : (n : ℕ) (P Q : Timeline → Type 0) (ranks : List ℕ) → ((t : Timeline) → P t ↔ Q t) → AreLeast n P ranks → AreLeast n Q ranks
same_ranks n P Q ranks same are = record {
  size = are.size;
  least = same_least n P Q (timeline_of ranks) same are.least;
  small = are.small;
}

-- the opposite atom is true where the atom is false
pub opposite_is : (atom : Atom) (t : Timeline) → Satisfies t (opposite atom) ↔ (Satisfies t atom → ⊥)
opposite_is atom t = (not_both atom.strict _ _, not_is atom.strict _ _)

module _ (n : ℕ) (cell : ℕ → ℕ → Cell) (closed : AreClosed n cell) where
  abbrev is_before : ℕ → ℕ → Bool
  is_before p r = is_strict (cell r p)

  -- the rank of a point, by chains of at most this number of points before it
  rank : ℕ → Timeline
  rank zero p = 0
  rank (suc f) p = highest (is_before p) (λ r. suc (rank f r)) n

  -- there is no longer chain than there are points before it
  settled : (f p : ℕ) → p < n → before_count n cell p ≤ f → rank f p ≡ rank (suc f) p
  unfolding rank
  settled zero p lp few =
      let none : highest (is_before p) (λ r. suc (rank 0 r)) n ≤ 0 = not_passed (is_before p) (λ r. suc (rank 0 r)) n 0 (λ r lr e. let less = fewer_before n cell closed r p lr lp (is_strict_at _ e) in absurd (omega arith)) in
      omega arith
  settled (suc f) p lp few =
      let same = λ (r : ℕ) (lr : r < n) (e : is_before p r ≡ true). let less = fewer_before n cell closed r p lr lp (is_strict_at _ e) in settled f r lr (omega arith) in
      let no_more = not_passed (is_before p) (λ r. suc (rank f r)) n (rank (suc (suc f)) p) (λ r lr e. let s = same r lr e in let up = reached (is_before p) (λ r. suc (rank (suc f) r)) n r lr e in omega arith) in
      let no_less = not_passed (is_before p) (λ r. suc (rank (suc f) r)) n (rank (suc f) p) (λ r lr e. let s = same r lr e in let up = reached (is_before p) (λ r. suc (rank f r)) n r lr e in omega arith) in
      omega arith

  at_end : (p : ℕ) → p < n → rank n p ≡ rank (suc n) p
  at_end p lp = let less = count_below_n n cell closed p lp in settled n p lp (omega arith)

  above : (r p : ℕ) → r < n → p < n → cell r p ≡ Strict → rank n r < rank n p
  unfolding rank
  above r p lr lp s = let up = reached (is_before p) (λ r. suc (rank n r)) n r lr (ap is_strict s) in let e = at_end p lp in omega arith

  least : (p m : ℕ) → p < n → ((r : ℕ) → r < n → cell r p ≡ Strict → rank n r < m) → rank n p ≤ m
  unfolding rank
  least p m lp below = let top = not_passed (is_before p) (λ r. suc (rank n r)) n m (λ r lr e. below r lr (is_strict_at _ e)) in let e = at_end p lp in omega arith

  -- a closed table has least ranks
  pub least_ranks : (ranks : List ℕ) × AreLeast n (AreCellsKept n cell) ranks
  least_ranks =
      let ranks = map (rank n) (range_with_len 0 n) in
      let here = λ (p : ℕ) (lp : p < n). get_or-map-range_with_len (rank n) 0 n p p 0 lp (omega arith) in (
        ranks,
        record {
          size = length-map-range_with_len (rank n) 0 n;
          least = record {
            holds = kept_below n cell (rank n) (timeline_of ranks) (λ p lp. sym (here p lp)) (ranks_kept n cell closed (rank n) above least);
            least = λ u kept p lp. let e = here p lp in let le = ranks_least n cell closed (rank n) above least u kept p lp in omega arith;
          };
          small = λ p lp. let e = here p lp in let lt = ranks_small n cell closed (rank n) above least p lp in omega arith;
        },
      )

-- where a cell of a closed table is weaker than an atom, there are least ranks that keep the table and make the atom false
pub counter_ranks : (n : ℕ) (cell : ℕ → ℕ → Cell) (atom : Atom) → AreClosed n cell → atom.from < n → atom.to < n → strength (cell atom.from atom.to) < strength (order atom.strict)
    → (ranks : List ℕ) × AreLeast n (λ t. AreCellsKept n cell t × (Satisfies t atom → ⊥)) ranks
counter_ranks n cell atom closed lf lt weak =
    let raised = λ (i j : ℕ). stronger (cell i j) (way cell (opposite atom) i j) in
    let fits = opposite_fits (cell atom.from atom.to) atom.strict weak in
    let still = raised_closed n cell (opposite atom) closed lt lf fits raised (λ i j li lj. refl) in
    let kept = raised_kept n cell (opposite atom) closed lt lf fits raised (λ i j li lj. refl) in
    let found = least_ranks n raised still in (
      found.0,
      same_ranks n (AreCellsKept n raised) (λ t. AreCellsKept n cell t × (Satisfies t atom → ⊥)) found.0 (λ t. (
        λ h. let both = (kept t).0 h in (both.0, (opposite_is atom t).0 both.1),
        λ h. (kept t).1 (h.0, (opposite_is atom t).1 h.1),
      )) found.1,
    )

-- of ranks of n points there is one list that is the least timeline of a property
pub one_least_of : (n : ℕ) (P : Timeline → Type 0) (a b : List ℕ) → length a ≡ n → length b ≡ n → IsLeast n P (timeline_of a) → IsLeast n P (timeline_of b) → a ≡ b
one_least_of n P a b la lb h k = same_number_lists a b (la ∙ sym lb) (λ p less.
    le_antisymm (h.least (timeline_of b) k.holds p (omega (arith, less, la))) (k.least (timeline_of a) h.holds p (omega (arith, less, la))))
