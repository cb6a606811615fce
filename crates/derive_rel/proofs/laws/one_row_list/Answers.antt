use Rattle.derive_rel.specs.Entailed.{IsRow}
use Rattle.derive_rel.proofs.OneList.{one_list}
use Rattle.derive_rel.proofs.laws.one_row_list.Goals as goal

pub returns : goal.returns
returns c = λ table. one_list (IsRow table)
