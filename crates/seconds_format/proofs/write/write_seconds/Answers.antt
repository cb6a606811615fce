use Rattle.std.proofs.Common.{sym, ◌∙◌}
use Rattle.seconds_core.specs.View.{evidence_of}
use Rattle.seconds_format.proofs.Writing.{text_is}
use Rattle.seconds_format.proofs.write.write_seconds.Goals as goal

pub returns : goal.returns
returns c = (c.in_ok-text_bytes.ensures.good, c.from_vec.ensures ∙ c.in_ok-text_bytes.ensures.bytes ∙ sym (text_is (evidence_of c.args.evidence.now)))
