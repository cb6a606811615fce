use Rattle.tml_types.proofs.RepeatedNames.{repeats_by_names}
use Rattle.tml_types.proofs.repeats.has_repeated_name.Goals as goal

pub returns : goal.returns
returns c =
    let sort = c.sort_unstable in
    repeats_by_names c.args.attrs.now c.as_slice.result.now c.has_equal_neighbours.result (rw (c.as_slice.ensures.value, ← c.in_ok-write_names.ensures) sort.ensures.permutation) c.has_equal_neighbours.ensures
