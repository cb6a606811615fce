use Rattle.std.proofs.Common.{sym}
use Rattle.net_core.specs.Atoms.{IsInRange, atoms_in}
use Rattle.net_core.proofs.StepLaws.{one_of_all}
use Rattle.order_answers.proofs.ask.deciding.first_not_given.Goals as goal

pub cell-requires-clause-i : goal.cell-requires-clause-i
cell-requires-clause-i c = (one_of_all (IsInRange c.args.table.now.points) (atoms_in c.args.atoms) c.loop-k.k c.in-Some.atom c.requires (sym c.in-Some.ensures)).0

pub cell-requires-clause-j : goal.cell-requires-clause-j
cell-requires-clause-j c = (one_of_all (IsInRange c.args.table.now.points) (atoms_in c.args.atoms) c.loop-k.k c.in-Some.atom c.requires (sym c.in-Some.ensures)).1
