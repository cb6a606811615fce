use Rattle.tml_span.proofs.Clear.{clear_ahead}
use Rattle.tml_span.proofs.cutter.Cutter.clear_after.Goals as goal

pub returns : goal.returns
returns c = clear_ahead c.args.self.now.source c.args.rest.now c.args.end c.clear_len.result c.requires.rest c.clear_len.ensures.clear
