use Rattle.std.proofs.Common.{length, arith}
use Rattle.tml_span.proofs.EveryCut.{every_cut_from}
use Rattle.tml_span.proofs.laws.every_cut.Goals as goal

pub returns : goal.returns
returns c = λ source. let cut = every_cut_from (length source) 0 source (omega arith) in (cut.0, cut.1.0, cut.1.1)
