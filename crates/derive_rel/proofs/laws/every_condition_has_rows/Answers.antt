use Rattle.std.proofs.Common.{◌≡◌, true}
use Rattle.std.proofs.Math.Bool.{Bool-discrete}
use Rattle.derive_rel.proofs.AllThere.{all_there}
use Rattle.derive_rel.proofs.laws.every_condition_has_rows.Goals as goal

pub returns : goal.returns
returns c = λ meets n. all_there (λ row. meets row ≡ true) n (λ row. Bool-discrete (meets row) true)
