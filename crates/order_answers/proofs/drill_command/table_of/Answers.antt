use Rattle.std.proofs.Common.{subst}
use Rattle.clash.specs.Closures.{ReportsClash}
use Rattle.order_answers.proofs.drill_command.table_of.Goals as goal

pub unreachable-requires : goal.unreachable-requires
unreachable-requires c =
    let clash = subst (ReportsClash c.args.net.now) c.in-Err-Clash.field-0-is c.in-Err-Clash.ensures.err in
    clash.0 c.requires.0 c.requires.1
