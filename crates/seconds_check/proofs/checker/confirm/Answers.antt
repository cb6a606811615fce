use Rattle.seconds_check.proofs.checker.confirm.Goals as goal

pub returns-in-Cycle-clause-err : goal.returns-in-Cycle-clause-err
returns-in-Cycle-clause-err c = rw c.in-Cycle.is (rw c.as_slice-in-Cycle.ensures.lines at c.check_cycle.ensures.err)
