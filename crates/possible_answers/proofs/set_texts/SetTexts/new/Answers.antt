use Rattle.possible_answers.proofs.Texts.{no_texts}
use Rattle.possible_answers.proofs.set_texts.SetTexts.new.Goals as goal

pub returns : goal.returns
returns c = no_texts c.new-bytes.result.items c.in_ok-places.places.items (c.in_ok-places.ensures.items_if_clones_equal (λ y e. e))
