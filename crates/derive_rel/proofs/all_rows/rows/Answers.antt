use Rattle.std.proofs.Common.{[], arith}
use Rattle.derive_rel.specs.Entailed.{IsRow}
use Rattle.derive_rel.proofs.Turns.{last_interval, one_interval}
use Rattle.derive_rel.proofs.all_rows.rows.Goals as goal

pub loop-a-preserved : goal.loop-a-preserved
loop-a-preserved c =
    let old = c.loop-a.invariant in
    record {
      end = old.end;
      few = old.few;
      put = one_interval (IsRow c.args.closed.now) [] c.loop-a.rows c.push_from.new.rows c.loop-a.a old.put c.in_ok-push_from.ensures;
    }

pub returns : goal.returns
returns c =
    let old = c.loop-a.invariant in
    last_interval (IsRow c.args.closed.now) c.loop-a.rows c.loop-a.a (λ row is. omega (arith, is.0, is.1, old.end, c.loop-a-test.false)) old.put
