use Rattle.std.proofs.Common.{inr, refl, [], ◌∷◌}
use Rattle.tml_c.specs.Given.{two_files}
use Rattle.tml_c.specs.Words.{HaveNoWords}
use Rattle.tml_c.proofs.Whole.{usage_is_reply}
use Rattle.tml_c.proofs.answer.answer_to_bytes.Goals as goal

pub returns-in-Ok-None : goal.returns-in-Ok-None
returns-in-Ok-None c =
    let none : HaveNoWords c.args.words.now = rw c.in-Ok-None.field-0-is at c.in-Ok-None.ensures.ok in
    inr ([] ∷ [], inr (none, refl), usage_is_reply (two_files c.args.first.now c.args.second.now) ([] ∷ []) refl)
