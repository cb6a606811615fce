-- The orders of four points are those of ranks below 4.
use Rattle.std.proofs.Common.{◌≡◌, inl, inr, ℕ, ◌+◌, ◌*◌, ◌/◌, ◌%◌, ◌<◌, ◌≤◌, nat_lt, sym, subst, arith}
use Rattle.std.specs.Prelude.{if◌then◌else◌}
use Rattle.std.specs.List.{Contains}
use Rattle.std.proofs.lemmas.Bool.{cases_lt}
use Rattle.std.proofs.lemmas.Bool.Decides.{nat_tests}
use Rattle.net_core.specs.Atoms.{point_in, points_of}
use Rattle.net_core.specs.Relations.{Holds, Relates, Timeline, ends_of}
use Rattle.net_core.specs.declared.atom.End.{End}
use Rattle.net_core.specs.declared.atom.End.TheVariants.{Start, Finish}
use Rattle.net_core.specs.declared.net.Ends.{Ends}
use Rattle.net_core.specs.declared.rels.Rel.{Rel}
use Rattle.order_closure.specs.Cells.{CellSays}
use Rattle.order_closure.specs.Chosen.{OrderAlike}
use Rattle.order_closure.specs.Tables.{Keeps, Table, cell_at}
use Rattle.order_closure.specs.declared.cell.Cell.{Cell}
use Rattle.order_closure.specs.declared.cell.Cell.TheVariants.{Free, Weak, Strict}
use Rattle.tml_possible.specs.Trying.{AreKeptAmong, end_ranks}
use Rattle.tml_possible.proofs.Placing.{each_point, four_points, of_first, of_second, place_of, related_alike}

-- one where the first number is below the second, and else none
abbrev below : ℕ → ℕ → ℕ
below m n = if nat_lt m n then 1 else 0

below_less : (m n : ℕ) → m < n → below m n ≡ 1
below_less m n h = grind (arith, nat_tests)

below_not : (m n : ℕ) → n ≤ m → below m n ≡ 0
below_not m n h = grind (arith, nat_tests)

below_most : (m n : ℕ) → below m n ≤ 1
below_most m n = elim (cases_lt m n) [
  | inl less ↦ omega (arith, below_less m n less)
  | inr not ↦ omega (arith, below_not m n not)
]

below_more : (k m n : ℕ) → m ≤ n → below k m ≤ below k n
below_more k m n h = elim (cases_lt k m) [
  | inl less ↦ omega (arith, below_less k m less, below_less k n (omega (arith, less, h)))
  | inr not ↦ omega (arith, below_not k m not)
]

module _ (t : Timeline) (a b : ℕ) where
  -- how many of the four points are before a place
  abbrev rank : ℕ → ℕ
  rank m = below (t (2 * a)) m + below (t (2 * a + 1)) m + below (t (2 * b)) m + below (t (2 * b + 1)) m

  -- the four points by their ranks
  abbrev ranked : Timeline
  ranked p = rank (t p)

  rank_more : (m n : ℕ) → m ≤ n → rank m ≤ rank n
  rank_more m n h = omega (arith, below_more (t (2 * a)) m n h, below_more (t (2 * a + 1)) m n h, below_more (t (2 * b)) m n h, below_more (t (2 * b + 1)) m n h)

  -- of one of the four points
  module _ (i : ℕ) (is : Contains (four_points a b) i) where
    rank_small : ranked i < 4
    rank_small = each_point a b (λ j. ranked j < 4) (λ p. first p) (λ p. second p) i is
      where
        first : (p : End) → ranked (point_in (points_of a) p) < 4
        first Start = let m = t (2 * a) in omega (arith, below_not m m (omega arith), below_most (t (2 * a + 1)) m, below_most (t (2 * b)) m, below_most (t (2 * b + 1)) m)
        first Finish = let m = t (2 * a + 1) in omega (arith, below_not m m (omega arith), below_most (t (2 * a)) m, below_most (t (2 * b)) m, below_most (t (2 * b + 1)) m)

        second : (p : End) → ranked (point_in (points_of b) p) < 4
        second Start = let m = t (2 * b) in omega (arith, below_not m m (omega arith), below_most (t (2 * a)) m, below_most (t (2 * a + 1)) m, below_most (t (2 * b + 1)) m)
        second Finish = let m = t (2 * b + 1) in omega (arith, below_not m m (omega arith), below_most (t (2 * a)) m, below_most (t (2 * a + 1)) m, below_most (t (2 * b)) m)

    rank_less : (n : ℕ) → t i < n → ranked i < rank n
    rank_less n less = each_point a b (λ j. t j < n → ranked j < rank n) (λ p. first p) (λ p. second p) i is less
      where
        first : (p : End) → t (point_in (points_of a) p) < n → ranked (point_in (points_of a) p) < rank n
        first Start h = let m = t (2 * a) in let le : m ≤ n = omega (arith, h) in
            omega (arith, below_not m m (omega arith), below_less m n h, below_more (t (2 * a + 1)) m n le, below_more (t (2 * b)) m n le, below_more (t (2 * b + 1)) m n le)
        first Finish h = let m = t (2 * a + 1) in let le : m ≤ n = omega (arith, h) in
            omega (arith, below_not m m (omega arith), below_less m n h, below_more (t (2 * a)) m n le, below_more (t (2 * b)) m n le, below_more (t (2 * b + 1)) m n le)

        second : (p : End) → t (point_in (points_of b) p) < n → ranked (point_in (points_of b) p) < rank n
        second Start h = let m = t (2 * b) in let le : m ≤ n = omega (arith, h) in
            omega (arith, below_not m m (omega arith), below_less m n h, below_more (t (2 * a)) m n le, below_more (t (2 * a + 1)) m n le, below_more (t (2 * b + 1)) m n le)
        second Finish h = let m = t (2 * b + 1) in let le : m ≤ n = omega (arith, h) in
            omega (arith, below_not m m (omega arith), below_less m n h, below_more (t (2 * a)) m n le, below_more (t (2 * a + 1)) m n le, below_more (t (2 * b)) m n le)

  -- they are in the same order
  ranked_alike : OrderAlike (four_points a b) t ranked
  ranked_alike i j ci cj = (
    λ h. rank_less i ci (t j) h,
    λ h. elim (cases_lt (t i) (t j)) [
      | inl less ↦ less
      | inr not ↦ absurd (omega (arith, h, rank_more (t j) (t i) not))
    ],
  )

  -- what a cell says of two places it says of their ranks
  says_ranked : (x : Cell) (i j : ℕ) → Contains (four_points a b) i → CellSays x (t i) (t j) → CellSays x (ranked i) (ranked j)
  says_ranked Free i j ci h = tt
  says_ranked Weak i j ci h = rank_more (t i) (t j) h
  says_ranked Strict i j ci h = rank_less i ci (t j) h

  -- the number of these ranks
  abbrev code : ℕ
  code = ranked (2 * a) + 4 * ranked (2 * a + 1) + 16 * ranked (2 * b) + 64 * ranked (2 * b + 1)

  -- their ranks by that number
  ranks_are : end_ranks code ≡ (ends_of ranked a, ends_of ranked b)
  ranks_are =
      let w = rank_small (2 * a) (of_first a b Start) in
      let x = rank_small (2 * a + 1) (of_first a b Finish) in
      let y = rank_small (2 * b) (of_second a b Start) in
      let z = rank_small (2 * b + 1) (of_second a b Finish) in
      digits (ranked (2 * a)) (ranked (2 * a + 1)) (ranked (2 * b)) (ranked (2 * b + 1)) w x y z
    where
      digits : (w x y z : ℕ) → w < 4 → x < 4 → y < 4 → z < 4 → end_ranks (w + 4 * x + 16 * y + 64 * z) ≡ (record { start = w; finish = x }, record { start = y; finish = z })
      digits w x y z lw lx ly lz =
          let n = w + 4 * x + 16 * y + 64 * z in
          let first : n % 4 ≡ w = omega (arith, lw) in
          let second : n / 4 % 4 ≡ x = omega (arith, lw, lx) in
          let third : n / 16 % 4 ≡ y = omega (arith, lw, lx, ly) in
          let fourth : n / 64 % 4 ≡ z = omega (arith, lw, lx, ly, lz) in
          λ i. (record { start = first i; finish = second i }, record { start = third i; finish = fourth i })

  -- so a timeline that keeps a table is found among them
  pub found : (table : Table) → 2 * a + 1 < table.points → 2 * b + 1 < table.points → Keeps table t → (r : Rel) → Relates t a r b
      → (n : ℕ) × (n < 256) × AreKeptAmong table a b (end_ranks n).0 (end_ranks n).1 × Holds (end_ranks n).0 r (end_ranks n).1
  found table fa fb kept r holds = (
    code,
    omega (arith, rank_small (2 * a) (of_first a b Start), rank_small (2 * a + 1) (of_first a b Finish), rank_small (2 * b) (of_second a b Start), rank_small (2 * b + 1) (of_second a b Finish)),
    subst (λ (e : Ends × Ends). AreKeptAmong table a b e.0 e.1) (sym ranks_are) (record {
      first = λ p q. moved a a p q (of_first a b p) fa fa;
      forth = λ p q. moved a b p q (of_first a b p) fa fb;
      back = λ p q. moved b a p q (of_second a b p) fb fa;
      second = λ p q. moved b b p q (of_second a b p) fb fb;
    }),
    subst (λ (e : Ends × Ends). Holds e.0 r e.1) (sym ranks_are) (related_alike a b t ranked ranked_alike r holds),
  )
    where
      inside : (i : ℕ) (p : End) → 2 * i + 1 < table.points → point_in (points_of i) p < table.points
      inside i Start lt = omega (arith, lt)
      inside i Finish lt = lt

      moved : (i j : ℕ) (p q : End) → Contains (four_points a b) (point_in (points_of i) p) → 2 * i + 1 < table.points → 2 * j + 1 < table.points
          → CellSays (cell_at table (point_in (points_of i) p) (point_in (points_of j) q)) (point_in (ends_of ranked i) p) (point_in (ends_of ranked j) q)
      moved i j p q is li lj = rw (← place_of ranked i p, ← place_of ranked j q)
          (says_ranked (cell_at table (point_in (points_of i) p) (point_in (points_of j) q)) (point_in (points_of i) p) (point_in (points_of j) q) is
          (kept (point_in (points_of i) p) (point_in (points_of j) q) (inside i p li) (inside j q lj)))
