use Rattle.std.proofs.Common.{sym, ◌∙◌}
use Rattle.evidence_format.proofs.Reading.{bundles}
use Rattle.line_texts.proofs.Reading.{one_of_texts}
use Rattle.evidence_format.proofs.laws.one_bundle_text.Goals as goal

pub returns-clause-texts : goal.returns-clause-texts
returns-clause-texts c = λ es a b h k. h.1 ∙ sym k.1

pub returns-clause-values : goal.returns-clause-values
returns-clause-values c = one_of_texts bundles
