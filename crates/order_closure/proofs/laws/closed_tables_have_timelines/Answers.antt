use Rattle.order_closure.proofs.Central as law
use Rattle.order_closure.proofs.laws.closed_tables_have_timelines.Goals as goal

pub returns : goal.returns
returns c = law.closed_tables_have_timelines
