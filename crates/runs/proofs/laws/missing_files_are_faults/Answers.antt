use Rattle.runs.proofs.Missing.{missing_breaks_off, read_fault_has_file}
use Rattle.runs.proofs.laws.missing_files_are_faults.Goals as goal

pub returns-clause-missing : goal.returns-clause-missing
returns-clause-missing g c = λ words. missing_breaks_off (g.P.Program.rows words) (c.all_are_answered.ensures words).one_next

pub returns-clause-read_fault : goal.returns-clause-read_fault
returns-clause-read_fault g c = λ words. read_fault_has_file (g.P.Program.rows words) (g.P.Program.is_free words) (c.all_are_answered.ensures words)
