-- Pairs in runs of one first number each.
use Rattle.std.proofs.Common.{◌≡◌, ◌↔◌, IsTrue, ℕ, zero, suc, ◌+◌, ◌<◌, ◌≤◌, ◌&&◌, true, false, Bool, nat_eq, List, [], ◌∷◌, ◌++◌, length, take, drop, get_or, refl, ap, subst, sym, ◌∙◌, append_assoc, length-append, arith}
use Rattle.std.specs.List.{All, prefix_len}
use Rattle.std.proofs.Math.ListN.{set}
use Rattle.std.proofs.lemmas.Bool.{eq-eqb, eqb-true}
use Rattle.std.proofs.lemmas.List.Folds.{length-prefix_len}
use Rattle.std.proofs.lemmas.List.{drop-append-le, drop_more, get_or-take, take-append-drop, take-append-le, take_more_set}
use Rattle.std.proofs.lemmas.List.Elements.{All-append, All-drop, All-take}
use Rattle.std.proofs.lemmas.List.Sums.{prefix_len_passes}
use Rattle.net_core.specs.Relations.{Timeline}
use Rattle.evidence_check.specs.Pairs.{AreRuns, IsKept, IsRun, first_of}
use Rattle.evidence_check.specs.declared.pairs.Order.{Order}
use Rattle.evidence_check.specs.declared.pairs.Pair.{Pair}

-- ---- runs that are found

-- the first pairs are runs where others follow
pub runs_before : (lens : List ℕ) (pairs more : List Pair) → AreRuns lens pairs → AreRuns lens (pairs ++ more)
runs_before [] pairs more are = tt
runs_before (len ∷ lens) pairs more are =
    let within = are.0 in (
      omega (arith, within, length-append pairs more),
      subst IsRun (sym (take-append-le len pairs more within)) are.1,
      subst (AreRuns lens) (sym (drop-append-le len pairs more within)) (runs_before lens (drop len pairs) more are.2),
    )

-- the first pairs begin as all do
first_of_take : (n : ℕ) (head : Pair) (pairs : List Pair) → 0 < n → first_of (take n (head ∷ pairs)) ≡ head.first
first_of_take zero head pairs some = absurd (omega arith)
first_of_take (suc n) head pairs some = refl

-- the first pair is one of its run
pub some_pair : (pairs : List Pair) (d : Pair) → 0 < length pairs → 0 < prefix_len (λ (pair : Pair). nat_eq pair.first (get_or pairs 0 d).first) pairs
some_pair [] d some = absurd (omega arith)
some_pair (head ∷ pairs) d some = rw (eq-eqb head.first head.first refl) (omega arith)

-- the pairs before the first one with another first number are a run
pub run_of : (pairs : List Pair) (d : Pair) → 0 < length pairs → IsRun (take (prefix_len (λ (pair : Pair). nat_eq pair.first (get_or pairs 0 d).first) pairs) pairs)
run_of [] d some = absurd (omega arith)
run_of (head ∷ pairs) d some = λ k e below.
    let test = λ (pair : Pair). nat_eq pair.first head.first in
    let n = prefix_len test (head ∷ pairs) in
    let inside : k < n = omega (arith, below, length-prefix_len test (head ∷ pairs)) in
    let here : (get_or (head ∷ pairs) k e).first ≡ head.first = eqb-true (get_or (head ∷ pairs) k e).first head.first (prefix_len_passes test (head ∷ pairs) k e inside) in
    ap (λ (pair : Pair). pair.first) (get_or-take n (head ∷ pairs) k e inside) ∙ here ∙ sym (first_of_take n head pairs (some_pair (head ∷ pairs) d some))

-- a run more
pub runs_more : (lens : List ℕ) (runs len : ℕ) (pairs rest : List Pair) → runs < length lens → len ≤ length rest → IsRun (take len rest)
    → ((more : List ℕ) → AreRuns more rest → AreRuns (take runs lens ++ more) pairs)
    → (more : List ℕ) → AreRuns more (drop len rest) → AreRuns (take (runs + 1) (set lens runs len) ++ more) pairs
runs_more lens runs len pairs rest below within run so_far more are =
    let same : take (runs + 1) (set lens runs len) ++ more ≡ take runs lens ++ len ∷ more = rw (take_more_set lens runs len below) (append_assoc (take runs lens) (len ∷ []) more) in
    subst (λ (l : List ℕ). AreRuns l pairs) (sym same) (so_far (len ∷ more) (within, run, are))

-- ---- runs one after another

-- what holds of all pairs holds of the first ones and of the others
pub in_two : {X : Type 0} (P : X → Type 0) (n : ℕ) (xs : List X) → All P xs ↔ (All P (take n xs) × All P (drop n xs))
in_two P n xs = (λ all. (All-take P n xs all, All-drop P n xs all), λ h. subst (All P) (take-append-drop n xs) (All-append P (take n xs) (drop n xs) h.0 h.1))

-- the runs that are left, after the next one
pub runs_on : (lens : List ℕ) (i : ℕ) (rest : List Pair) → i < length lens → AreRuns (drop i lens) rest → AreRuns (get_or lens i 0 ∷ drop (i + 1) lens) rest
runs_on lens i rest below are = subst (λ (l : List ℕ). AreRuns l rest) (drop_more lens i 0 below) are

-- the first pair has the first number of a run
pub head_is : (run : List Pair) (head : Pair) → 0 < length run → head ≡ get_or run 0 head → head.first ≡ first_of run
head_is [] head some is = absurd (omega arith)
head_is (pair ∷ run) head some is = ap (λ (p : Pair). p.first) is

-- one test more, where others are left
pub tests_on : (all test : Bool) (All Rest Next More : Type 0) → (IsTrue all × Rest) ↔ All → IsTrue test ↔ Next → Rest ↔ (Next × More) → (IsTrue (all && test) × More) ↔ All
tests_on true true All Rest Next More all test two = (λ h. all.0 (refl, two.1 (test.0 refl, h.1)), λ h. let both = two.0 (all.1 h).1 in (refl, both.1))
tests_on true false All Rest Next More all test two = (λ h. absurd cc, λ h. absurd (let is = test.1 (two.0 (all.1 h).1).0 in cc))
tests_on false test All Rest Next More all last two = (λ h. absurd cc, λ h. absurd (let is = (all.1 h).0 in cc))

-- a pair of a run, by the first number of the first one
pub of_run : (order : Order) (t : Timeline) (run : List Pair) (k : ℕ) (d head : Pair) (result : Bool) → k < length run → IsRun run → head.first ≡ first_of run
    → IsTrue result ↔ IsKept order t (record { first = head.first; second = (get_or run k d).second }) → IsTrue result ↔ IsKept order t (get_or run k d)
of_run order t run k d head result below is first kept =
    let same : head.first ≡ (get_or run k d).first = first ∙ sym (is k d below) in
    subst (λ (n : ℕ). IsTrue result ↔ IsKept order t (record { first = n; second = (get_or run k d).second })) same kept
