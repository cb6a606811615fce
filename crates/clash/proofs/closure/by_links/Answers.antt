use Rattle.std.proofs.Common.{◌∙◌}
use Rattle.clash.proofs.Exact.{first_clash, keeps_fits, none_fits}
use Rattle.clash.proofs.closure.by_links.Goals as goal

pub clash_up_to-requires : goal.clash_up_to-requires
clash_up_to-requires c = first_clash c.args.net.now c.in_ok-table.table c.in_ok-table.ensures.keeps c.in-Err.first.link c.in-Err.ensures.err

pub returns-in-Ok-clause-ok : goal.returns-in-Ok-clause-ok
returns-in-Ok-clause-ok c = record {
  size = c.in-Ok.ensures.ok.0 ∙ c.in_ok-table.ensures.size;
  keeps = keeps_fits c.args.net.now c.in_ok-table.table c.in_ok-table.ensures.keeps c.add_links.new.table c.in-Ok.ensures.ok;
}

pub returns-in_ok-clash-in-Err-clause-err : goal.returns-in_ok-clash-in-Err-clause-err
returns-in_ok-clash-in-Err-clause-err c = (
  none_fits c.args.net.now c.in-Err.first.link (first_clash c.args.net.now c.in_ok-table.table c.in_ok-table.ensures.keeps c.in-Err.first.link c.in-Err.ensures.err),
  c.in_ok-clash-in-Err.ensures,
)
