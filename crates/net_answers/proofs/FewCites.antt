-- A walk has no fewer steps than links that it goes over.
use Rattle.std.proofs.Common.{◌≡◌, ℕ, zero, suc, ◌+◌, ◌<◌, ◌≤◌, List, [], ◌∷◌, length, get_or, Some, sym, ap, ◌∙◌, arith}
use Rattle.std.specs.List.Sorted.{IsStrictlyIncreasing}
use Rattle.std.proofs.lemmas.List.Kept.{AllPairs-from_increasing}
use Rattle.net_core.specs.Steps.{link_of}
use Rattle.net_core.specs.Walks.{GoesOver}
use Rattle.net_core.specs.declared.step.Step.{Step}

-- the other steps of a walk, without one: they still go over the links above k
record Others (walk : List Step) (k : ℕ) : Type 0 where
  rest : List Step
  shorter : length walk ≡ length rest + 1
  over : (j : ℕ) → k < j → GoesOver walk j → GoesOver rest j

-- a step that goes over link k can be left out
leave_out : (walk : List Step) (k : ℕ) → GoesOver walk k → Others walk k
leave_out [] k (step, (i, lt, e), is) = absurd (omega (arith, lt))
leave_out (step ∷ walk) k (own, (zero, lt, e), is) = record { rest = walk; shorter = omega arith; over = later }
  where
    later : (j : ℕ) → k < j → GoesOver (step ∷ walk) j → GoesOver walk j
    later j above (other, (zero, lt, at), goes) =
        let both : Some k ≡ Some j = sym is ∙ ap link_of (sym e ∙ at) ∙ goes in
        let same : k ≡ j = cc in
        absurd (omega (arith, above, same))
    later j above (other, (suc i, lt, at), goes) = (other, (i, omega (arith, lt), at), goes)
leave_out (step ∷ walk) k (own, (suc i, lt, e), is) =
    let others = leave_out walk k (own, (i, omega (arith, lt), e), is) in
    record { rest = step ∷ others.rest; shorter = omega (arith, others.shorter); over = kept others.rest others.over }
  where
    kept : (rest : List Step) → ((j : ℕ) → k < j → GoesOver walk j → GoesOver rest j) → (j : ℕ) → k < j → GoesOver (step ∷ walk) j → GoesOver (step ∷ rest) j
    kept rest over j above (other, (zero, lt, at), goes) = (other, (zero, omega arith, at), goes)
    kept rest over j above (other, (suc n, lt, at), goes) =
        let there = over j above (other, (n, omega (arith, lt), at), goes) in
        (there.0, (suc there.1.0, omega (arith, there.1.1), there.1.2), there.2)

-- links, each below those after it, are no more than the steps of a walk that goes over each
few_links : (links : List ℕ) (walk : List Step) → ((i j : ℕ) → i < j → j < length links → get_or links i 0 < get_or links j 0) → ((i : ℕ) → i < length links → GoesOver walk (get_or links i 0))
    → length links ≤ length walk
few_links [] walk rising over = omega arith
few_links (k ∷ links) walk rising over =
    let others = leave_out walk k (over 0 (omega arith)) in
    let fewer = few_links links others.rest (λ i j before lt. rising (suc i) (suc j) (omega (arith, before)) (omega (arith, lt)))
    (λ i lt. others.over (get_or links i 0) (rising 0 (suc i) (omega arith) (omega (arith, lt))) (over (suc i) (omega (arith, lt)))) in
    omega (arith, others.shorter, fewer)

-- links that rise, each of which a walk goes over, are no more than its steps
pub few_cites : (cites : List ℕ) (walk : List Step) → IsStrictlyIncreasing cites → ((i : ℕ) → i < length cites → GoesOver walk (get_or cites i 0)) → length cites ≤ length walk
few_cites cites walk rising over = few_links cites walk (λ i j. AllPairs-from_increasing cites rising i j 0) over
