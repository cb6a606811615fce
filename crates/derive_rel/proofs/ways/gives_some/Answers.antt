use Rattle.std.proofs.Common.{refl, ◌∙◌}
use Rattle.derive_rel.proofs.WordBits.{says_word}
use Rattle.derive_rel.proofs.ways.gives_some.Goals as goal

pub returns : goal.returns
returns c = c.has_one.ensures ∙ says_word c.args.closed.now c.args.a c.args.b c.weak_row-start.result.now c.weak_row-finish.result.now c.weak_row-start.ensures c.weak_row-finish.ensures c.requires.b _ refl
