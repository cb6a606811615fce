use Rattle.std.proofs.Common.{◌≡◌, ℕ, ◌+◌, ◌^◌, ◌<◌, get_or, sym, ap, ◌∙◌, arith, length, length-set}
use Rattle.std.specs.Int.{bit_at}
use Rattle.std.proofs.lemmas.Nat.Bits.{bit_at-zero}
use lib.Count.{count_trailing_zeros}
use Rattle.timeline.specs.Ranking.{raised}
use Rattle.timeline.proofs.Words.{lowest, lowest_off, cleared_less, still_set, raised_bit, before_word}
use Rattle.timeline.proofs.ranking.raise_word.Goals as goal

pub overflow_add-rank : goal.overflow_add-rank
overflow_add-rank c =
    let low = lowest c.loop-rest.rest c.loop-rest-test.true (omega arith) in
    let within = c.loop-rest.invariant.within _ low.1 in
    omega arith

pub offset_bounds-ranks-first : goal.offset_bounds-ranks-first
offset_bounds-ranks-first c =
    let low = lowest c.loop-rest.rest c.loop-rest-test.true (omega arith) in
    let within = c.loop-rest.invariant.within _ low.1 in
    omega arith

pub bounds-ranks-first : goal.bounds-ranks-first
bounds-ranks-first c = c.loop-rest.invariant.within _ (lowest c.loop-rest.rest c.loop-rest-test.true (omega arith)).1

pub loop-rest-preserved : goal.loop-rest-preserved
loop-rest-preserved c =
    let rest = c.loop-rest.rest in
    let t = c.loop-rest.ranks in
    let first = c.args.first in
    let least = c.args.least in
    let k = count_trailing_zeros 64 rest in
    let old = c.loop-rest.invariant in
    let small : rest < 2 ^ 64 = omega arith in
    let low = lowest rest c.loop-rest-test.true small in
    let within : first + k < length t = old.within k low.1 in
    rw (lowest_off rest c.loop-rest-test.true small, c.max.ensures) record {
      within = λ j is. rw length-set (old.within j (still_set rest k small low.0 low.1 j is));
      raised = λ j. raised_bit rest k small low.0 low.1 first least t within j ∙ old.raised j;
      others = λ q lt. before_word rest k small low.0 low.1 first least t within q lt ∙ old.others q lt;
    }

pub loop-rest-smaller : goal.loop-rest-smaller
loop-rest-smaller c =
    let rest = c.loop-rest.rest in
    let low = lowest rest c.loop-rest-test.true (omega arith) in
    rw (lowest_off rest c.loop-rest-test.true (omega arith)) (cleared_less rest (count_trailing_zeros 64 rest) low.0 low.1)

pub returns : goal.returns
returns c =
    let old = c.loop-rest.invariant in
    let none : (j : ℕ) → bit_at c.loop-rest.rest j ≡ 0 = λ j. ap (λ m. bit_at m j) c.loop-rest-test.false ∙ bit_at-zero j in
    record {
      raised = λ j. sym (ap (λ b. raised b c.args.least (get_or c.loop-rest.ranks (c.args.first + j) 0)) (none j)) ∙ old.raised j;
      others = old.others;
    }
