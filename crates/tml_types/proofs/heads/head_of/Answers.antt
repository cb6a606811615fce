use Rattle.std.proofs.Common.{rules}
use Rattle.tml_types.specs.Heads.{number_from}
use Rattle.tml_types.proofs.HeadBytes.{head_more}
use Rattle.tml_types.proofs.heads.head_of.Goals as goal

pub loop-byte-preserved : goal.loop-byte-preserved
loop-byte-preserved c =
    let steps = c.in-Some.ensures.steps in
    head_more _ _ _ _ _ _ _ _ steps.0 steps.1 c.from.ensures c.loop-byte.invariant

pub returns : goal.returns
unfolding number_from
returns c = search rules
