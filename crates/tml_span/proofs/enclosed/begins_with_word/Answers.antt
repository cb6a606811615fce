use Rattle.std.proofs.Common.{Some, None, ◌∷◌}
use Rattle.std.proofs.lemmas.Bool.Decides.{Decides-eqb}
use Rattle.std.proofs.lemmas.Slice.Eq.{strip_prefix_is}
use Rattle.tml_span.proofs.Closings.{word_decides}
use Rattle.tml_span.proofs.enclosed.begins_with_word.Goals as goal

pub returns-in_default : goal.returns-in_default
returns-in_default c =
    let lacks = strip_prefix_is Decides-eqb c.args.bytes.now c.args.word.now None c.in_default.ensures.cases in
    (λ e. absurd cc, λ h. absurd (lacks (h.0 ∷ h.1) h.2))

pub returns-in-len1-up : goal.returns-in-len1-up
returns-in-len1-up c =
    let whole = strip_prefix_is Decides-eqb c.args.bytes.now c.args.word.now (Some c.in-Some.rest) c.in-Some.ensures.cases in
    word_decides _ _ _ _ whole c.in-len1-up.len_at_least c.is_white.ensures
