use Rattle.tml_span.proofs.Searching.{text_ends, all_text}
use Rattle.tml_span.proofs.bytes.text_len.Goals as goal

pub returns-in-Some-clause-len : goal.returns-in-Some-clause-len
returns-in-Some-clause-len c = text_ends _ _ c.in-Some.ensures

pub returns-in-None-clause-len : goal.returns-in-None-clause-len
returns-in-None-clause-len c = all_text _ c.in-None.ensures
