-- The answer of the function below, given back. Assumes nothing.
use mathlib.Core.Path.{refl}
use Rattle.puddockle.proofs.Returned.{part}
use Rattle.puddockle.proofs.numbered.puddockle_unit.Goals as goal

pub returns-in-Err : goal.returns-in-Err
returns-in-Err c = part (rw c.in-Err.is at c.unit_place.ensures) c.refused.ensures.0 c.refused.ensures.1 refl refl

pub returns-in-Ok : goal.returns-in-Ok
returns-in-Ok c = part (rw c.in-Ok.is at c.unit_place.ensures) refl refl refl refl
