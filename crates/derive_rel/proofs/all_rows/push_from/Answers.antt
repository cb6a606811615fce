use Rattle.derive_rel.specs.Entailed.{IsRow}
use Rattle.derive_rel.proofs.Turns.{one_after}
use Rattle.derive_rel.proofs.all_rows.push_from.Goals as goal

pub loop-b-preserved : goal.loop-b-preserved
loop-b-preserved c =
    let old = c.loop-b.invariant in
    record {
      end = old.end;
      put = one_after (IsRow c.args.closed.now) c.args.a c.args.rows.now c.loop-b.rows c.push_pair.new.rows c.loop-b.b old.put c.in_ok-push_pair.ensures;
    }
