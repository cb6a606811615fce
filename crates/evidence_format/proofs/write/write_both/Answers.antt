use Rattle.std.proofs.Common.{◌∙◌}
use Rattle.evidence_format.proofs.BodyTexts.{text_of_both}
use Rattle.evidence_format.proofs.write.write_both.Goals as goal

pub returns : goal.returns
returns c = λ es ds are first second. text_of_both es ds c.args.first c.args.second _ are first second (c.from_vec.ensures ∙ c.in_ok-joined_bytes.ensures)
