use Rattle.std.proofs.Common.{◌≡◌, false}
use Rattle.order_closure.specs.Tables.{cell_at}
use Rattle.derive_rel.specs.Pairs.{says_some}
use Rattle.derive_rel.proofs.OneWay.{after_given, before_given, only_after, only_before}
use Rattle.derive_rel.proofs.all_rows.push_pair.Goals as goal

pub push_alone-requires-clause-alone : goal.push_alone-requires-clause-alone
push_alone-requires-clause-alone c =
    let not : says_some (cell_at c.args.closed.now) c.args.b c.args.a ≡ false = cc in
    only_before c.args.closed.now c.args.a c.args.b not

pub push_alone-requires-clause-order : goal.push_alone-requires-clause-order
push_alone-requires-clause-order c = before_given c.args.closed.now c.args.a c.args.b

pub push_alone-requires-then-not-gives_some-2-clause-alone : goal.push_alone-requires-then-not-gives_some-2-clause-alone
push_alone-requires-then-not-gives_some-2-clause-alone c =
    let not : says_some (cell_at c.args.closed.now) c.args.a c.args.b ≡ false = cc in
    only_after c.args.closed.now c.args.a c.args.b not

pub push_alone-requires-then-not-gives_some-2-clause-order : goal.push_alone-requires-then-not-gives_some-2-clause-order
push_alone-requires-then-not-gives_some-2-clause-order c = after_given c.args.closed.now c.args.a c.args.b
