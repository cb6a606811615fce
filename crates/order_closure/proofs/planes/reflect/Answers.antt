use Rattle.std.proofs.Common.{arith}
use Rattle.order_closure.proofs.New.{reflected, still_clear}
use Rattle.order_closure.proofs.planes.reflect.Goals as goal

pub loop-i-preserved : goal.loop-i-preserved
loop-i-preserved c =
    let clear = c.loop-i.invariant.others in
    record {
      done = reflected c.args.size c.args.width c.loop-i.i c.loop-i.plane (omega arith) c.requires.words (omega arith) clear c.loop-i.invariant.done;
      others = still_clear c.args.size c.args.width c.loop-i.i c.loop-i.plane (omega arith) c.requires.words (omega arith) clear;
    }
