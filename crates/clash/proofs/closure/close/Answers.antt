use Rattle.clash.proofs.Exact.{closure_from, one_fits}
use Rattle.clash.proofs.closure.close.Goals as goal

pub returns-clause-ok : goal.returns-clause-ok
returns-clause-ok c = closure_from c.args.net.now c.in_ok-table.table c.points.ensures.closed c.in_ok-table.ensures.ok.size c.in_ok-table.ensures.ok.keeps

pub returns-clause-fits : goal.returns-clause-fits
returns-clause-fits c = one_fits c.args.net.now c.in_ok-table.table c.points.ensures.closed c.in_ok-table.ensures.ok.size c.in_ok-table.ensures.ok.keeps
