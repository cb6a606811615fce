use Rattle.runs.proofs.laws.one_text.Goals as goal

pub returns : goal.returns
returns g c = λ words. (c.all_are_answered.ensures words).one_text
