use Rattle.tml_types.proofs.DistinctHeads.{rising_heads}
use Rattle.tml_types.proofs.repeats.have_distinct_heads.Goals as goal

pub returns : goal.returns
returns c = λ told.
    let sort = c.sort_unstable in
    rising_heads c.args.attrs.now c.as_slice.result.now (rw (c.as_slice.ensures.value, ← c.in_ok-write_heads.ensures) sort.ensures.permutation) (c.rise.ensures told)
