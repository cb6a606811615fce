-- Claims that are judged one after another.
use Rattle.std.proofs.Common.{◌≡◌, false, Result, Ok, Err}
use Rattle.std.specs.Prelude.{OnOk}
use Rattle.std.specs.Result.{is_err}

-- what holds after an Ok holds where there is no error
pub no_error : {E : Type 0} (P : Type 0) (r : Result (Unit {0}) E) → false ≡ is_err r → OnOk r P → P
no_error P (Ok u) is h = h
no_error P (Err e) is h = absurd cc
