-- The answer of the function below, given back. Assumes nothing.
use mathlib.Core.Path.{refl}
use Rattle.puddockle.proofs.Returned.{returned}
use Rattle.puddockle.proofs.bundle.puddockle_check_bundle.Goals as goal

pub returns-in-Err : goal.returns-in-Err
returns-in-Err c = returned (rw c.in-Err.is at c.check_bundle.ensures) c.refused.ensures.0 c.refused.ensures.1

pub returns-in-Ok : goal.returns-in-Ok
returns-in-Ok c = returned (rw c.in-Ok.is at c.check_bundle.ensures) refl refl
