-- Spans and the calendar alone always fit: each date at its own numbers.
use Rattle.std.proofs.Common.{◌≡◌, ℕ, zero, suc, ◌+◌, ◌-◌, ◌*◌, ◌/◌, ◌%◌, ◌==◌, ◌<◌, ◌≤◌, ℤ, ◌<ℤ◌, Bool, true, false, List, [], ◌∷◌, Some, slice_index_or, subst, arith}
use borrow.Author.Differences.{up, down}
use Rattle.std.proofs.lemmas.Int.{ints}
use Rattle.std.proofs.lemmas.List.Elements.{All-get_or}
use Rattle.net_core.specs.Bounds.{AreOrdered, lower_of, upper_of}
use Rattle.net_core.specs.Fits.{FitsWith, FollowsNumbers}
use Rattle.net_core.specs.Nets.{IsNet, PlainNet, bounds_at}
use Rattle.net_core.specs.Relations.{Timeline}
use Rattle.net_core.specs.declared.bounds.Bounds.{Bounds}
use Rattle.net_core.specs.declared.bounds.Bounds.TheVariants.{Exact, Within, Free}
use Rattle.clash.specs.Closures.{NoLink}

-- how far below zero numbers are
abbrev depth : Bounds → ℕ
depth (Exact lo hi) = down lo + down hi
depth (Within lo hi) = down lo + down hi
depth Free = 0

abbrev depth_of_all : List Bounds → ℕ
depth_of_all [] = 0
depth_of_all (b ∷ all) = depth b + depth_of_all all

-- no number is deeper than all together
not_deeper : (all : List Bounds) (i : ℕ) → depth (slice_index_or all i Free) ≤ depth_of_all all
not_deeper [] i = omega arith
not_deeper (b ∷ all) zero = omega arith
not_deeper (b ∷ all) (suc i) = omega (arith, not_deeper all i)

-- the rank of a number, above a depth
abbrev rank : ℕ → ℤ → ℕ
rank d z = up z + d - down z

-- the ranks of the start and the end of an interval
abbrev rank_of : ℕ → Bounds → Bool → ℕ
rank_of d (Exact lo hi) true = rank d hi
rank_of d (Exact lo hi) false = rank d lo
rank_of d (Within lo hi) true = rank d hi
rank_of d (Within lo hi) false = rank d lo
rank_of d Free true = 1
rank_of d Free false = 0

rises : (d : ℕ) (lo hi : ℤ) → lo <ℤ hi → down lo + down hi ≤ d → rank d lo < rank d hi
rises d lo hi less deep = omega (arith, ints)

starts : (d : ℕ) (b : Bounds) → AreOrdered b → depth b ≤ d → rank_of d b false < rank_of d b true
starts d (Exact lo hi) less deep = rises d lo hi less deep
starts d (Within lo hi) less deep = rises d lo hi less deep
starts d Free less deep = omega arith

-- two numbers, neither deeper than d, are in the order of their ranks
in_order : (d : ℕ) (x y : ℤ) → down x ≤ d → down y ≤ d → FollowsNumbers (Some x) (Some y) (rank d x) (rank d y)
in_order d x y dx dy = (λ less. omega (arith, ints), λ e. subst (λ (z : ℤ). rank d x ≤ rank d z) e (omega arith))

follows : (d : ℕ) (b c : Bounds) (x y : Bool) → depth b ≤ d → depth c ≤ d → FollowsNumbers (upper_of b x) (lower_of c y) (rank_of d b x) (rank_of d c y)
follows d (Exact lo hi) (Exact l h) true true db dc = in_order d hi h (omega arith) (omega arith)
follows d (Exact lo hi) (Exact l h) true false db dc = in_order d hi l (omega arith) (omega arith)
follows d (Exact lo hi) (Exact l h) false true db dc = in_order d lo h (omega arith) (omega arith)
follows d (Exact lo hi) (Exact l h) false false db dc = in_order d lo l (omega arith) (omega arith)
follows d (Exact lo hi) (Within l h) true true db dc = tt
follows d (Exact lo hi) (Within l h) true false db dc = in_order d hi l (omega arith) (omega arith)
follows d (Exact lo hi) (Within l h) false true db dc = tt
follows d (Exact lo hi) (Within l h) false false db dc = in_order d lo l (omega arith) (omega arith)
follows d (Exact lo hi) Free true y db dc = tt
follows d (Exact lo hi) Free false y db dc = tt
follows d (Within lo hi) (Exact l h) true true db dc = in_order d hi h (omega arith) (omega arith)
follows d (Within lo hi) (Exact l h) true false db dc = in_order d hi l (omega arith) (omega arith)
follows d (Within lo hi) (Within l h) true true db dc = tt
follows d (Within lo hi) (Within l h) true false db dc = in_order d hi l (omega arith) (omega arith)
follows d (Within lo hi) Free true y db dc = tt
follows d (Within lo hi) c false y db dc = tt
follows d Free c x y db dc = tt

-- each date is at its own numbers, and any other interval somewhere
abbrev pub own_numbers : PlainNet → Timeline
own_numbers net p = rank_of (depth_of_all net.bounds) (bounds_at net (p / 2)) (p % 2 == 1)

pub unlinked_fits : (net : PlainNet) → IsNet net → FitsWith net NoLink (own_numbers net)
unlinked_fits net is = record {
  order = λ i below.
      let half : 2 * i / 2 ≡ i = omega arith in
      let even : 2 * i % 2 ≡ 0 = omega arith in
      let half_too : (2 * i + 1) / 2 ≡ i = omega arith in
      let odd : (2 * i + 1) % 2 ≡ 1 = omega arith in
      rw (half, even, half_too, odd) (starts (depth_of_all net.bounds) (bounds_at net i) (All-get_or AreOrdered net.bounds i Free below is.ordered) (not_deeper net.bounds i));
  links = λ k below none. absurd none;
  calendar = λ p q lp lq.
      follows (depth_of_all net.bounds) (bounds_at net (p / 2)) (bounds_at net (q / 2)) (p % 2 == 1) (q % 2 == 1) (not_deeper net.bounds (p / 2)) (not_deeper net.bounds (q / 2));
}
