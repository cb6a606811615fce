use Rattle.std.proofs.Common.{ℕ, ◌+◌, ◌*◌, get_or, arith}
use Rattle.timeline.proofs.Words.{set_in_row, done_more, others_more, all_done}
use Rattle.timeline.proofs.ranking.raise_after.Goals as goal

pub raise_word-requires : goal.raise_word-requires
raise_word-requires c j is =
    let row = c.args.row.now in
    let k = c.loop-k.k in
    let long = c.loop-k.auto.ranks in
    omega (arith, c.requires.within (64 * k + j) (set_in_row row k j (c.type_inv.row k).fits is))

pub loop-k-preserved : goal.loop-k-preserved
loop-k-preserved c =
    let row = c.args.row.now in
    let k = c.loop-k.k in
    let old = c.loop-k.invariant in
    let first : ℕ → ℕ = λ q. get_or c.args.ranks.now q 0 in
    let now : ℕ → ℕ = λ q. get_or c.loop-k.ranks q 0 in
    let new : ℕ → ℕ = λ q. get_or c.raise_word.new.ranks q 0 in
    record {
      done = done_more row k c.args.least first now old.done old.others new (c.type_inv.row k).fits c.raise_word.ensures.raised c.raise_word.ensures.others;
      others = others_more row k c.args.least first now old.done old.others new (c.type_inv.row k).fits c.raise_word.ensures.raised c.raise_word.ensures.others;
    }

pub returns : goal.returns
returns c =
    let old = c.loop-k.invariant in
    all_done c.args.row.now c.loop-k.k c.args.least (λ q. get_or c.args.ranks.now q 0) (λ q. get_or c.loop-k.ranks q 0) old.done old.others c.loop-k-test.false
